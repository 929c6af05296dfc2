-- From the keys of a file to its values or its first fault.
use Rattle.std.proofs.Common.{◌≡◌, ◌≢◌, ◌∙◌, ℕ, ◌+◌, List, [], ◌∷◌, Option, Some, None, Result, Ok, Err, ap}
use Rattle.toml.specs.Data.{Data, Members}
use Rattle.desk_ops.specs.declared.op.Symbol.{Symbol}
use Rattle.desk_wedge.specs.Keys.{number_of}
use Rattle.desk_wedge.proofs.FirstFault.{IsNever, then_never, value_never, never_err}
use Rattle.desk_case.specs.Case.{CaseValues}
use Rattle.desk_case.specs.File.{key_name, at_key, sheet_of, cell_of_data, fill_of, grid_from, first_doubled, first_held, unless, case_of_members}
use Rattle.desk_case.specs.Reading.{Gives}
use Rattle.desk_case.specs.declared.CaseKey.{CaseKey}
use Rattle.desk_case.specs.declared.CaseKey.TheVariants as key
use Rattle.desk_case.specs.declared.CaseFault.{CaseFault}
use Rattle.desk_case.specs.declared.CaseFault.TheVariants.{Missing, Shape, Doubled, NotBlank, FillOrder, NoMemory}

-- no file is at fault for the order of its fills
key_never : {A : Type 0} (k : CaseKey) (read : Data → Option A) (ms : Members) → IsNever FillOrder (at_key k read ms)
key_never k read ms = value_never FillOrder (key_name k) (Missing k) (Shape k) read ms (λ e. cc) (λ e. cc)

grid_never : (n : ℕ) (ms : List (Option (Option Symbol))) → IsNever FillOrder (grid_from n ms)
grid_never n [] = tt
grid_never n (None ∷ ms) = λ e. cc
grid_never n (Some m ∷ ms) = then_never FillOrder (grid_from (n + 1) ms) (λ grid. Ok (m ∷ grid)) (grid_never (n + 1) ms) (λ grid. tt)

unless_never : {A B : Type 0} (fault : A → CaseFault) (o : Option A) (b : B) → ((a : A) → fault a ≢ FillOrder) → IsNever FillOrder (unless fault o b)
unless_never fault None b h = tt
unless_never fault (Some a) b h = h a

members_never : (ms : Members) → IsNever FillOrder (case_of_members ms)
members_never ms =
    then_never FillOrder (at_key key.Case (number_of 1 65535) ms) _ (key_never key.Case (number_of 1 65535) ms) (λ n.
    then_never FillOrder (at_key key.Rows sheet_of ms) _ (key_never key.Rows sheet_of ms) (λ sheet.
    then_never FillOrder (at_key key.Space (cell_of_data sheet.columns) ms) _ (key_never key.Space (cell_of_data sheet.columns) ms) (λ s.
    then_never FillOrder (at_key key.Fill (fill_of sheet.columns) ms) _ (key_never key.Fill (fill_of sheet.columns) ms) (λ f.
    then_never FillOrder (grid_from 0 sheet.matrices) _ (grid_never 0 sheet.matrices) (λ g.
    then_never FillOrder (unless Doubled (first_doubled g) g) _ (unless_never Doubled (first_doubled g) g (λ a e. cc)) (λ grid.
    unless_never NotBlank (first_held grid (s ∷ f)) _ (λ a e. cc)))))))

given_order : (ms : Members) (f : CaseFault) → (f ≢ NoMemory → case_of_members ms ≡ Err f) → f ≡ FillOrder → ⊥
given_order ms f h e = never_err FillOrder (case_of_members ms) (members_never ms) (h (λ memory. cc) ∙ ap Err e)

pub never_order : (ms : Members) (r : Result CaseValues CaseFault) → Gives (λ c. c) (case_of_members ms) r → r ≢ Err FillOrder
never_order ms (Ok c) h e = cc
never_order ms (Err f) h e = given_order ms f h (cc)
