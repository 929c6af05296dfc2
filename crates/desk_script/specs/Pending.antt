-- Lines while their bytes come in.
use Rattle.std.specs.Prelude.{◌≡◌, ℕ, ◌==◌, true, false, List, [], ◌∷◌, ◌++◌, Option, Some, None, Result, Ok, Err}
use Rattle.desk_script.specs.declared.fault.RunFault.{RunFault}
use Rattle.desk_script.specs.declared.fault.RunFault.TheVariants as faults
use Rattle.feed_files.specs.Files.{Shelf}
use Rattle.script_world.specs.Sites.{Sites}
use Rattle.desk_script.specs.Line.{Line, line_of}
use Rattle.desk_script.specs.Lines.{without_cr}
use Rattle.desk_script.specs.Desk.{Desk, desk}
use Rattle.desk_script.specs.Script.{Turn, StopsWithin, StopsBefore}

-- a last line without an end counts if it is not empty
abbrev pub last_line : List ℕ → List Line
last_line [] = []
last_line (b ∷ bytes) = line_of (b ∷ bytes) ∷ []

-- the lines, where pending has come of the first
abbrev pub lines_from : List ℕ → List ℕ → List Line
lines_from pending [] = last_line pending
lines_from pending (b ∷ bytes) =
    elim (b == 10)
    [ true ↦ line_of (without_cr pending) ∷ lines_from [] bytes | false ↦ lines_from (pending ++ b ∷ []) bytes ]

-- how far a run has come: its desk, what was written, and the bytes of a line that has no end yet
pub record Progress : Type 0 where
  pub state : Desk
  pub written : Option (List ℕ)
  pub pending : List ℕ

abbrev pub progress : Sites → Shelf → Option (List ℕ) → List ℕ → Progress
progress sites shelf written pending = record { state = desk sites shelf; written = written; pending = pending }

-- bytes that come are answered as far as their lines are whole, and the rest of them is pending then
abbrev pub Moves : Progress → Progress → List ℕ → Type 0
Moves old new bytes =
    (done : List Line) × Turn old.state new.state old.written new.written done
    × ((more : List ℕ) → lines_from old.pending (bytes ++ more) ≡ done ++ lines_from new.pending more)

-- whatever follows the bytes, the first of their lines were answered, no file has changed since, and a prefix of their
-- answers was written
abbrev pub Breaks : Progress → Progress → List ℕ → Type 0
Breaks old new bytes =
    (more : List ℕ) → StopsWithin old.state new.state.shelf old.written new.written
    (lines_from old.pending (bytes ++ more))

-- whatever follows the bytes, the first of their lines were answered and each answer was written, no file has changed
-- since, and a line comes after them
abbrev pub BreaksBefore : Progress → Progress → List ℕ → Type 0
BreaksBefore old new bytes =
    (more : List ℕ) → StopsBefore old.state new.state.shelf old.written new.written
    (lines_from old.pending (bytes ++ more))

-- bytes that come are taken; or a run stops among them where the writer failed, or before a line that was not kept
abbrev pub Takes : Result (Unit {0}) RunFault → Progress → Progress → List ℕ → Type 0
Takes (Ok x) old new bytes = Moves old new bytes
Takes (Err faults.Write) old new bytes = Breaks old new bytes
Takes (Err faults.NoMemory) old new bytes = BreaksBefore old new bytes
Takes (Err faults.Read) old new bytes = ⊥
Takes (Err faults.TooLong) old new bytes = ⊥
Takes (Err (faults.Feed why)) old new bytes = ⊥
Takes (Err (faults.File why)) old new bytes = ⊥
Takes (Err (faults.Opening why)) old new bytes = ⊥

-- What was answered and written, and the pending bytes and the bytes that are left, give the lines of all.
abbrev pub Carries : Desk → Desk → Option (List ℕ) → Option (List ℕ) → Option (List ℕ) → Option (List ℕ) → List ℕ
    → Type 0
Carries old new None left before after pending = Unit {0}
Carries old new (Some input) None before after pending = ⊥
Carries old new (Some input) (Some left) before after pending =
    (done : List Line) × Turn old new before after done × (lines_from [] input ≡ done ++ lines_from pending left)
