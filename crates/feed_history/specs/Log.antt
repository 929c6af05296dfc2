-- The log of a set, and of a stored feed, written as text.
use Rattle.std.specs.Prelude.{◌≡◌, ℕ, List, Option}
use Rattle.std.specs.Io.KnownBytes.{Appends}
use Rattle.desk_ops.specs.OpSet.{OpSet, in_order}
use Rattle.desk_ops.specs.Faults.{faults_of}
use Rattle.desk_walk.specs.Following.{entries_of}
use Rattle.feed_files.specs.Files.{Shelf}
use Rattle.feed_stored.specs.Sending.{WritesPrefix}
use Rattle.feed_edit.specs.Exporting.{IsClosedBy, IsSetOf}
use Rattle.feed_edit.specs.declared.fault.ExportFault.{ExportFault}
use Rattle.feed_edit.specs.declared.fault.ExportFault.TheVariants as exports
use Rattle.feed_history.specs.declared.asked.Asked.{Asked}
use Rattle.feed_history.specs.Asked.{asked_lines}
use Rattle.feed_history.specs.Spots.{spots_from}

-- a line for each correction of a set that is asked for, by their last stamps
abbrev pub log_bytes : Asked → OpSet → List ℕ
log_bytes asked h = asked_lines (in_order h) (spots_from 0 (entries_of h)) (faults_of h) asked

-- what was written is the log of the set that the name stands for
abbrev pub IsLogged : Asked → List ℕ → Shelf → Option (List ℕ) → Option (List ℕ) → Type 0
IsLogged asked name first before after = (set : OpSet) × IsSetOf name first set
    × Appends before after (log_bytes asked set)

-- why not all of the log was written, and what was: nothing, or under Write a prefix; `NoMemory` only once the feed
-- was opened
abbrev pub IsUnlogged : Asked → List ℕ → Shelf → Shelf → Option (List ℕ) → Option (List ℕ) → ExportFault → Type 0
IsUnlogged asked name first last before after (exports.Feed why) = (after ≡ before) × IsClosedBy name first last why
IsUnlogged asked name first last before after exports.Write = (set : OpSet) × IsSetOf name first set
    × WritesPrefix before after (log_bytes asked set) × (last.failures ≡ first.failures)
IsUnlogged asked name first last before after exports.NoMemory = (after ≡ before) × (set : OpSet)
    × IsSetOf name first set × (last.failures ≡ first.failures)
