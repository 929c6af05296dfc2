-- What a failed call of the machine says, and what is held.
use Rattle.std.specs.Prelude.{◌≡◌, ◌≢◌, ◌⊎◌, ℕ, if◌then◌else◌, List, Option, None, Some, string_bytes}
use Rattle.std.specs.declared.io.ErrorKind.{ErrorKind}
use Rattle.std.specs.declared.io.ErrorKind.TheVariants as kinds
use Rattle.feed_files.specs.declared.files.FileRefusal.{FileRefusal}
use Rattle.feed_files.specs.declared.files.FileRefusal.TheVariants as refusals
use Rattle.feed_files.specs.Files as files
use Rattle.program_host.specs.declared.hold.Hold.{Hold}

-- by the kind of the error: that the file or its folder is not there, that memory ran out, or of all other kinds that
-- the device failed
abbrev pub IsReportedOf : ErrorKind → FileRefusal → Type 0
IsReportedOf kind refusals.Missing = (kind ≡ kinds.NotFound) ⊎ (kind ≡ kinds.NotADirectory)
IsReportedOf kind refusals.Device = (kind ≢ kinds.NotFound) × (kind ≢ kinds.NotADirectory) × (kind ≢ kinds.OutOfMemory)
IsReportedOf kind refusals.Large = ⊥
IsReportedOf kind refusals.NoMemory = kind ≡ kinds.OutOfMemory

-- what is held, by the name and whether it was touched
abbrev pub held_in : Option Hold → files.Hold
held_in None = files.Free
held_in (Some hold) = if hold.is_touched then files.Touched (string_bytes hold.name) else files.Untouched
    (string_bytes hold.name)

-- a name is that of what is held
abbrev pub IsHeldAs : Option Hold → List ℕ → Type 0
IsHeldAs None name = ⊥
IsHeldAs (Some hold) name = string_bytes hold.name ≡ name

-- Where a name leads: the held one and that of its writing to their places, any other to itself.
pub record LeadsTo (hold : Hold) (name place : List ℕ) : Type 0 where
  pub held : name ≡ string_bytes hold.name → place ≡ string_bytes hold.place
  pub writing : name ≢ string_bytes hold.name → name ≡ string_bytes hold.new → place ≡ string_bytes hold.new_place
  pub other : name ≢ string_bytes hold.name → name ≢ string_bytes hold.new → place ≡ name
