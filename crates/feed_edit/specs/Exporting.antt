-- The copy of a stored feed, as it is or as it was, written as text.
use Rattle.std.specs.Prelude.{◌≡◌, ◌<◌, ℕ, Bool, List, Option, None, Some, Err, nat_le, filter}
use Rattle.std.specs.Io.KnownBytes.{Appends}
use Rattle.desk_ops.specs.declared.op.Op.{Op}
use Rattle.desk_ops.specs.OpSet.{OpSet, max_ops, no_ops, size, with_all}
use Rattle.desk_ops.specs.Op.{stamp_of}
use Rattle.desk_ops.specs.Shown.{copy_of}
use Rattle.desk_codec.specs.Fault.{IsFirstFault}
use Rattle.text_copy.specs.Writing.{text_bytes}
use Rattle.feed_files.specs.Files.{IsCounted, Reads, Shelf}
use Rattle.feed_stored.specs.Fault.{AskMemory}
use Rattle.feed_stored.specs.Sending.{WritesPrefix}
use Rattle.feed_edit.specs.Merging.{GaveBytes, IsFeedOf}
use Rattle.feed_edit.specs.declared.exporting.Version.{Version}
use Rattle.feed_edit.specs.declared.fault.FeedTrouble.{FeedTrouble}
use Rattle.feed_edit.specs.declared.fault.FeedTrouble.TheVariants as troubles
use Rattle.feed_edit.specs.declared.fault.ExportFault.{ExportFault}
use Rattle.feed_edit.specs.declared.fault.ExportFault.TheVariants as exports

-- whether an operation's counter is at most this
abbrev pub is_until : ℕ → Op → Bool
is_until counter op = nat_le (stamp_of op).counter counter

-- all of a list's operations, or those whose counter is at most the given one
abbrev pub ops_until : Option ℕ → List Op → List Op
ops_until None ops = ops
ops_until (Some counter) ops = filter (is_until counter) ops

-- the name stands for a feed, and this is the set of its operations, of all or of those up to a counter
abbrev pub IsSetUntil : Option ℕ → List ℕ → Shelf → OpSet → Type 0
IsSetUntil until name shelf set = (ops : List Op) × IsFeedOf (shelf.kept name) ops
    × (set ≡ with_all no_ops (ops_until until ops))

-- the set of a version of a stored feed
abbrev pub IsVersion : Version → Shelf → OpSet → Type 0
IsVersion version = IsSetUntil version.until version.feed.now

-- the name stands for a feed of the operations of this set
abbrev pub IsSetOf : List ℕ → Shelf → OpSet → Type 0
IsSetOf = IsSetUntil None

-- what was written is the text of the copy of the version
abbrev pub IsExported : Version → Shelf → Option (List ℕ) → Option (List ℕ) → Type 0
IsExported version first before after = (set : OpSet) × IsVersion version first set
    × Appends before after (text_bytes (copy_of set))

-- why the feed of a file is not opened: it is missing or was not read; it is no feed; or of its operations, of all or
-- of those up to a counter, there are more than a replica holds; or memory ran out once its bytes were read, and they
-- are such that memory is asked for
abbrev pub IsClosedUntil : Option ℕ → List ℕ → Shelf → Shelf → FeedTrouble → Type 0
IsClosedUntil until name before after (troubles.File why) = Reads (before.kept name) (Err why)
    × IsCounted why before after
IsClosedUntil until name before after (troubles.Feed fault) = (bytes : List ℕ) × GaveBytes name before after bytes
    × IsFirstFault bytes fault
IsClosedUntil until name before after troubles.Full = (ops : List Op) × IsFeedOf (before.kept name) ops
    × (after.failures ≡ before.failures) × (max_ops < size (with_all no_ops (ops_until until ops)))
IsClosedUntil until name before after troubles.NoMemory = (bytes : List ℕ) × GaveBytes name before after bytes
    × AskMemory bytes

-- why a version of a stored feed is not opened
abbrev pub IsUnversioned : Version → Shelf → Shelf → FeedTrouble → Type 0
IsUnversioned version = IsClosedUntil version.until version.feed.now

-- the same of all its operations
abbrev pub IsClosedBy : List ℕ → Shelf → Shelf → FeedTrouble → Type 0
IsClosedBy = IsClosedUntil None

-- why not all of the text was written, and what was: nothing, or under Write a prefix; `NoMemory` only once the feed
-- was opened
abbrev pub IsUnexported : Version → Shelf → Shelf → Option (List ℕ) → Option (List ℕ) → ExportFault → Type 0
IsUnexported version first last before after (exports.Feed why) = (after ≡ before)
    × IsUnversioned version first last why
IsUnexported version first last before after exports.Write = (set : OpSet) × IsVersion version first set
    × WritesPrefix before after (text_bytes (copy_of set)) × (last.failures ≡ first.failures)
IsUnexported version first last before after exports.NoMemory = (after ≡ before) × (set : OpSet)
    × IsVersion version first set × (last.failures ≡ first.failures)
