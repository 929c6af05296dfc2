-- The values of a wedge file, or its first fault.
use Rattle.std.specs.Prelude.{ℕ, ◌+◌, nat_lt, if◌then◌else◌, List, [], ◌∷◌, codes, Option, Some, None, Result, Ok, Err}
use Rattle.std.specs.Prelude.{option_and_then}
use Rattle.std.specs.Str.{bytes_eq}
use Rattle.toml.specs.Data.{Data, Members, as_str}
use Rattle.desk_units.specs.declared.Pica.{Pica}
use Rattle.desk_units.specs.declared.Pica.TheVariants.{Sixth, American}
use Rattle.desk_wedge.specs.Keys.{◌>>=◌, number_of, value_at, file_of}
use Rattle.desk_wedge.specs.Items.{array_of}
use Rattle.desk_wedge.specs.declared.keys.TableFault.{TableFault}
use Rattle.desk_wedge.specs.declared.keys.TableFault.TheVariants as table
use Rattle.desk_wedge.specs.declared.WedgeKey.{WedgeKey}
use Rattle.desk_wedge.specs.declared.WedgeKey.TheVariants as key
use Rattle.desk_wedge.specs.declared.WedgeFault.{WedgeFault}
use Rattle.desk_wedge.specs.declared.WedgeFault.TheVariants.{NotToml, Missing, Range, Descending, NoMemory}
use Rattle.desk_wedge.specs.Wedge.{WedgeValues}

-- what a key of the file is called
abbrev pub key_name : WedgeKey → List ℕ
key_name key.Wedge = codes "wedge"
key_name key.SetQ = codes "set_q"
key_name key.Pica = codes "pica"
key_name key.Units = codes "units"

-- the number of a fault
abbrev pub fault_number : WedgeFault → Option ℕ
fault_number NotToml = Some 1
fault_number (Missing key) = Some 2
fault_number (Range key) = Some 3
fault_number (Descending row) = Some 4
fault_number NoMemory = None

abbrev pub pica_named : List ℕ → Option Pica
pica_named text = if bytes_eq text (codes "sixth") then Some Sixth else if bytes_eq text (codes "american") then Some
    American else None

abbrev pub pica_of : Data → Option Pica
pica_of d = option_and_then pica_named (as_str d)

-- the units of 15 rows
abbrev pub units_of : Data → Option (List ℕ)
units_of d = array_of 15 15 (number_of 1 24) d

-- what a key holds, read; else that it is missing, or that it is no such value
abbrev pub at_key : {A : Type 0} → WedgeKey → (Data → Option A) → Members → Result A WedgeFault
at_key key read members = value_at (key_name key) (Missing key) (Range key) read members

-- the first row, from this one on, whose units are fewer than those of the row before
abbrev pub descent_from : ℕ → ℕ → List ℕ → Option ℕ
descent_from row before [] = None
descent_from row before (u ∷ us) = if nat_lt u before then Some row else descent_from (row + 1) u us

abbrev pub first_descent : List ℕ → Option ℕ
first_descent units = descent_from 1 0 units

abbrev pub unless_descending : WedgeValues → Option ℕ → Result WedgeValues WedgeFault
unless_descending w None = Ok w
unless_descending w (Some row) = Err (Descending row)

-- the values of the keys, each read in its turn
abbrev pub wedge_of_members : Members → Result WedgeValues WedgeFault
wedge_of_members members =
    at_key key.Wedge (number_of 1 65535) members >>= (λ n.
    at_key key.SetQ (number_of 20 96) members >>= (λ q.
    at_key key.Pica pica_of members >>= (λ p.
    at_key key.Units units_of members >>= (λ us.
    unless_descending (record { number = n; set_q = q; pica = p; units = us }) (first_descent us)))))

-- why bytes give no table, as a fault of the file
abbrev pub table_fault : TableFault → WedgeFault
table_fault table.NotToml = NotToml
table_fault table.NoMemory = NoMemory

-- the values of a file, or its first fault
abbrev pub wedge_of : List ℕ → Result WedgeValues WedgeFault
wedge_of bytes = file_of NotToml wedge_of_members bytes
