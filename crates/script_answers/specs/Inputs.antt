-- What the files of a command give.
use Rattle.std.specs.Prelude.{◌≡◌, ◌⊎◌, ℕ, List, Option, Some, Result, Ok, Err}
use Rattle.toml.specs.Errors.{IsBlank}
use Rattle.desk_case.specs.Case.{CaseValues}
use Rattle.desk_case.specs.File.{case_of}
use Rattle.desk_wedge.specs.Wedge.{WedgeValues}
use Rattle.desk_wedge.specs.File.{wedge_of}
use Rattle.script_answers.specs.declared.text.Refusal.{Refusal}
use Rattle.script_answers.specs.Failure.{case_refused, file_refused, wedge_refused}
use Rattle.script_answers.specs.declared.failure.Failure.{Failure}
use Rattle.script_answers.specs.declared.failure.Failure.TheVariants as failures
use Rattle.feed_files.specs.declared.files.FileRefusal.{FileRefusal}
use Rattle.feed_files.specs.declared.files.FileRefusal.TheVariants as files
use Rattle.feed_files.specs.Files.{Counts, Reads, Shelf, Stays}

-- the one holds of what was returned or refused, and the other where memory ran out
abbrev pub Answers : {V : Type 0} → (Result V Refusal → Type 0) → Type 0 → Result V Failure → Type 0
Answers Holds Lacks (Ok value) = Holds (Ok value)
Answers Holds Lacks (Err (failures.Refused why)) = Holds (Err why)
Answers Holds Lacks (Err failures.NoMemory) = Lacks

-- what was read, or the refusal that says why it was not
abbrev pub Reports : {V E : Type 0} → (E → Option Refusal) → Result V E → Result V Refusal → Type 0
Reports refused (Ok value) given = given ≡ Ok value
Reports refused (Err why) given = (reported : Refusal) × (refused why ≡ Some reported) × (given ≡ Err reported)

-- what bytes mean, or a refusal
abbrev pub ReportsBytes : {V E : Type 0} → (List ℕ → Result V E) → (E → Option Refusal) → Result (List ℕ) FileRefusal
    → Result V Refusal → Type 0
ReportsBytes meaning refused (Ok bytes) given = Reports refused (meaning bytes) given
ReportsBytes meaning refused (Err why) given = (reported : Refusal) × (file_refused why ≡ Some reported)
    × (given ≡ Err reported)

-- A file is read by its name, and none changes. It gives its bytes or a refusal: that of a device exactly where the
-- device failed.
abbrev pub FileGives : {V E : Type 0} → (List ℕ → Result V E) → (E → Option Refusal) → List ℕ → Shelf → Result V Refusal
    → Shelf → Type 0
FileGives meaning refused name before given after =
    Stays before after × (read : Result (List ℕ) FileRefusal) × Reads (before.kept name) read × Counts read before after
    × ReportsBytes meaning refused read given

-- memory ran out for the bytes of a file, or for what they mean: then they are more than blanks
abbrev pub EndsMemory : Result (List ℕ) FileRefusal → Type 0
EndsMemory (Ok bytes) = ¬ IsBlank bytes
EndsMemory (Err why) = why ≡ files.NoMemory

-- a file is read by its name, and memory runs out by it; no file has changed, and the device did not fail
abbrev pub FileLacksMemory : List ℕ → Shelf → Shelf → Type 0
FileLacksMemory name before after = (after ≡ before) × (read : Result (List ℕ) FileRefusal)
    × Reads (before.kept name) read × EndsMemory read

abbrev pub with_case : CaseValues → Result WedgeValues Refusal → Result (CaseValues × WedgeValues) Refusal
with_case case (Ok wedge) = Ok (case, wedge)
with_case case (Err why) = Err why

-- the wedge file is read after the case
abbrev pub ThenWedge : List ℕ → Result CaseValues Refusal → Shelf → Result (CaseValues × WedgeValues) Refusal → Shelf
    → Type 0
ThenWedge name (Err why) mid given after = (given ≡ Err why) × (after ≡ mid)
ThenWedge name (Ok case) mid given after = (wedge : Result WedgeValues Refusal)
    × FileGives wedge_of wedge_refused name mid wedge after × (given ≡ with_case case wedge)

-- the case file, its reading, the wedge file, its reading, each by its name: the first refusal counts
abbrev pub BothGive : List ℕ → List ℕ → Shelf → Result (CaseValues × WedgeValues) Refusal → Shelf → Type 0
BothGive of_case of_wedge before given after =
    (case : Result CaseValues Refusal)
    × ((mid : Shelf) × FileGives case_of case_refused of_case before case mid
    × ThenWedge of_wedge case mid given after)

-- memory runs out by the case file, or by the wedge file once the other has given a case
abbrev pub BothLackMemory : List ℕ → List ℕ → Shelf → Shelf → Type 0
BothLackMemory of_case of_wedge before after =
    FileLacksMemory of_case before after
    ⊎ ((case : CaseValues) × FileGives case_of case_refused of_case before (Ok case) before
    × FileLacksMemory of_wedge before after)
