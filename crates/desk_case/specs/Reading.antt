-- What the steps of reading promise one another.
use Rattle.std.specs.Prelude.{◌≡◌, ◌≢◌, ℕ, Bool, true, false, List, ◌++◌, Option, Some, None, Result, Ok, Err}
use Rattle.desk_ops.specs.declared.op.Symbol.{Symbol}
use Rattle.desk_case.specs.declared.read.FileRows.{FileRows}
use Rattle.desk_case.specs.declared.CaseFault.{CaseFault}
use Rattle.desk_case.specs.declared.CaseFault.TheVariants.{NoMemory}
use Rattle.desk_case.specs.File.{cells_of, Sheet}

-- an answer is the file's, or out of memory
abbrev pub Gives : {A B : Type 0} → (B → A) → Result A CaseFault → Result B CaseFault → Type 0
Gives value file (Ok b) = file ≡ Ok (value b)
Gives value file (Err e) = e ≢ NoMemory → file ≡ Err e

-- what the texts of a row stand for comes after what is there, and the answer is whether it is a row
abbrev pub AddsRow : List (Option (Option Symbol)) → List (Option (Option Symbol)) → Option (List (List ℕ)) → Bool
    → Type 0
AddsRow before after (Some texts) added = (added ≡ true) × (after ≡ before ++ cells_of texts)
AddsRow before after None added = added ≡ false

-- rows that have been read, as those of the file
abbrev pub sheet_seen : FileRows → Sheet
sheet_seen s = record { columns = s.columns; matrices = s.matrices.items }
