-- What a replacement and a check have done, and what they left.
use Rattle.std.specs.Prelude.{◌⊎◌, ℕ, Bool, true, false, List, Option}
use Rattle.std.specs.Borrow.{Bor}
use Rattle.clap.specs.Words.{Text}
use Rattle.feed_files.specs.Files.{Shelf, Stays}
use Rattle.feed_check.specs.Checking.{IsChecked, IsUnchecked}
use Rattle.feed_check.specs.declared.fault.CheckFault.{CheckFault}
use Rattle.feed_edit.specs.Replacing.{IsUnreplaced}
use Rattle.feed_edit.specs.declared.replace_fault.ReplaceFault.{ReplaceFault}
use Rattle.feed_edit.specs.declared.room.Room.{Room}
use Rattle.feed_edit.specs.declared.texts.Exchange.{Exchange}
use Rattle.feed_edit.specs.declared.texts.Where.{Where}
use Rattle.program_desk.specs.Causes.{check_cause, replace_cause}
use Rattle.program_desk.specs.Explained.{IsSilent, Reports}

-- a text, the one that takes its place, and where
abbrev pub exchange : Bor Text → Bor Text → Bool → Where → Exchange
exchange old new plain at = record { from = old; to = new; plain = plain; at = at }

-- why the one text was not made the other, what was left, and what standard error has
abbrev pub IsUnchanged : Room → Exchange → Shelf → Shelf → Option (List ℕ) → Option (List ℕ)
    → Bool → Option (List ℕ) → Option (List ℕ) → Type 0
IsUnchanged room exchange first last before after whole quiet said = (fault : ReplaceFault)
    × IsUnreplaced room exchange first last before after fault
    × Reports (replace_cause room.feed room.site fault) whole quiet said

-- each file has its line, all are in order or one is not; no file has changed
abbrev pub AreReported : List Text → Shelf → Shelf → Option (List ℕ) → Option (List ℕ) → Bool → Type 0
AreReported names first last before after well = Stays first last × IsChecked names first last before after well

-- all are in order
abbrev pub AreFound : List Text → Shelf → Shelf → Option (List ℕ) → Option (List ℕ) → Type 0
AreFound names first last before after = AreReported names first last before after true

-- one is not; or a line was not written, and standard error has the lines on the fault
abbrev pub AreNotInOrder : List Text → Shelf → Shelf → Option (List ℕ) → Option (List ℕ)
    → Bool → Option (List ℕ) → Option (List ℕ) → Type 0
AreNotInOrder names first last before after whole quiet said =
    (AreReported names first last before after false × IsSilent whole quiet said)
    ⊎ (Stays first last × (fault : CheckFault) × IsUnchecked names first last before after fault
    × Reports (check_cause fault) whole quiet said)
