-- What the caster makes of the bytes of a ribbon.
use Rattle.std.specs.Prelude.{◌≡◌, ◌≢◌, ◌⊎◌, ℕ, List, length, Result, Ok, Err, String, string_bytes}
use Rattle.desk_signals.specs.declared.RibbonRow.{RibbonRow}
use Rattle.desk_case.specs.Case.{CaseValues}
use Rattle.desk_wedge.specs.Wedge.{WedgeValues}
use Rattle.desk_caster.specs.Caster.{Line, cast}
use Rattle.desk_caster.specs.Reading.{IsRibbon, Reports}
use Rattle.desk_caster.specs.declared.RibbonFault.{RibbonFault}
use Rattle.desk_caster.specs.declared.RibbonFault.TheVariants as ribbons
use Rattle.desk_caster.specs.declared.CastFault.{CastFault}
use Rattle.view_ribbon.specs.Ends.{ended}
use Rattle.view_ribbon.specs.Faults.{cast_fault_text, ribbon_fault_text}
use Rattle.view_ribbon.specs.declared.casting.Casting.{Casting}

-- how many rows there are, how many lines each galley has that ends in them, and the lines that they cast
pub record Cast : Type 0 where
  pub rows : ℕ
  pub ended : List ℕ
  pub lines : List Line

-- what rows cast, or the line of the first fault that the caster meets
abbrev pub cast_outcome : List RibbonRow → Result (List Line) CastFault → Result Cast (List ℕ)
cast_outcome rows (Ok lines) = Ok (record { rows = length rows; ended = ended rows; lines = lines })
cast_outcome rows (Err fault) = Err (cast_fault_text fault)

abbrev pub rows_outcome : CaseValues → WedgeValues → List RibbonRow → Result Cast (List ℕ)
rows_outcome case wedge rows = cast_outcome rows (cast case wedge rows)

-- this is what the rows cast whose ribbon the bytes are; or they are no ribbon, and it is the line of their first fault
abbrev pub IsOutcome : List ℕ → CaseValues → WedgeValues → Result Cast (List ℕ) → Type 0
IsOutcome bytes case wedge outcome =
    ((rows : List RibbonRow) × IsRibbon bytes rows × (outcome ≡ rows_outcome case wedge rows))
    ⊎ ((why : RibbonFault) × Reports bytes why × (why ≢ ribbons.NoMemory) × (outcome ≡ Err (ribbon_fault_text why)))

-- the same, where lines and text lie in memory
abbrev pub cast_in : {A : Type 0} → Casting A → Cast
cast_in cast = record { rows = cast.rows; ended = cast.ended.items; lines = cast.lines.items }

abbrev pub outcome_of : {A : Type 0} → Result (Casting A) (String A) → Result Cast (List ℕ)
outcome_of (Ok cast) = Ok (cast_in cast)
outcome_of (Err line) = Err (string_bytes line)
