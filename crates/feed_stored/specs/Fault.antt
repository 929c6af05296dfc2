-- Why a stored feed was not taken, read, opened or stored.
use Rattle.std.specs.Prelude.{◌≡◌, ◌≢◌, ◌<◌, ◌⊎◌, ℕ, List, Option, Some, None, Err}
use Rattle.desk_ops.specs.declared.op.Op.{Op}
use Rattle.desk_ops.specs.OpSet.{no_ops, size, with_all, max_ops}
use Rattle.desk_codec.specs.Fault.{IsFirstFault}
use Rattle.desk_codec.specs.Feed.{IsFeed}
use Rattle.desk_codec.specs.Reading.{MayHoldOne}
use Rattle.desk_held.specs.declared.AddRefusal.{AddRefusal}
use Rattle.desk_held.specs.declared.AddRefusal.TheVariants.{Full, NoMemory}
use Rattle.desk_held.specs.declared.join.Stopped.{Stopped}
use Rattle.feed_files.specs.Files.{HasNoPlace, IsCounted, IsNowhere, Reads, Shelf, Spares, Stays, new_name}
use Rattle.feed_files.specs.declared.files.FileRefusal.{FileRefusal}
use Rattle.feed_files.specs.declared.files.FileRefusal.TheVariants as refusals
use Rattle.feed_stored.specs.declared.fault.OpenFault.{OpenFault}
use Rattle.feed_stored.specs.declared.fault.OpenFault.TheVariants as openings

-- what a stop of a replica's opening is, by its cause
abbrev pub of_stop : Stopped → AddRefusal → OpenFault
of_stop stop Full = openings.Opening stop
of_stop stop NoMemory = openings.NoMemory

-- the name of a stored feed was not taken for a run, and no file has changed: Missing comes only where no file can have
-- the name
abbrev pub IsUntaken : List ℕ → Shelf → Shelf → FileRefusal → Type 0
IsUntaken name before after why =
    (why ≢ refusals.Large) × (why ≡ refusals.Missing → IsNowhere (before.kept name)) × IsCounted why before after
    × Stays before after

-- a stored feed was not read, for another cause than that no file is there, and no file has changed
abbrev pub IsUnread : List ℕ → Shelf → Shelf → FileRefusal → Type 0
IsUnread name before after why = (why ≢ refusals.Missing) × Reads (before.kept name) (Err why)
    × IsCounted why before after × Stays before after

-- a replica would hold more operations than it may
abbrev pub IsCrowded : List Op → Stopped → Type 0
IsCrowded ops stop = (max_ops < size (with_all no_ops ops)) × (stop.why ≡ Full) × (stop.taken ≡ 0)

-- bytes for which memory is asked: such as may hold an operation, or a feed
abbrev pub AskMemory : List ℕ → Type 0
AskMemory bytes = MayHoldOne bytes ⊎ ((ops : List Op) × IsFeed bytes ops)

-- what was read of a stored feed asks for memory: its bytes do; where no file is there none is asked for
abbrev pub AsksMemory : Option (List ℕ) → Type 0
AsksMemory (Some bytes) = AskMemory bytes
AsksMemory None = ⊥

-- why a stored feed was not opened, by what was read of it
abbrev pub IsUnopened : Option (List ℕ) → OpenFault → Type 0
IsUnopened read (openings.Feed fault) = (bytes : List ℕ) × (read ≡ Some bytes) × IsFirstFault bytes fault
IsUnopened read (openings.Opening stop) = (bytes : List ℕ) × (read ≡ Some bytes) × (ops : List Op) × IsFeed bytes ops
    × IsCrowded ops stop
IsUnopened read openings.NoMemory = AsksMemory read

-- a feed was not stored, and nothing but what stands under the name of the writing may have changed: Missing comes only
-- where no file can have that name or the feed's
abbrev pub IsNotStored : List ℕ → Shelf → Shelf → FileRefusal → Type 0
IsNotStored name before after why =
    Spares (new_name name) before.kept after.kept × (why ≢ refusals.Large)
    × (why ≡ refusals.Missing → HasNoPlace name before.kept) × IsCounted why before after
