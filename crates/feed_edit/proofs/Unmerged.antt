-- Feeds that are not all joined to a stored one.
use Rattle.std.proofs.Common.{Bool, List, ℕ, refl}
use Rattle.std.specs.Prelude.{Option}
use Rattle.desk_ops.specs.OpSet.{OpSet}
use Rattle.feed_files.specs.Files.{Shelf}
use Rattle.feed_edit.specs.Merging.{IsOpened, IsUnmerged, StopsJoining}
use Rattle.feed_edit.specs.declared.fault.MergeFault.{MergeFault}
use Rattle.feed_edit.specs.declared.fault.MergeFault.TheVariants as merges

-- where they are not nothing was written
pub unmerged : {A : Type 0} (name : List ℕ) (others : List (List ℕ)) (forks : Bool) (first held last : Shelf) (read : Option (List ℕ)) (old : OpSet) (now : Option (List ℕ)) (why : MergeFault A) → IsOpened name first held read old
    → StopsJoining others forks old held last why → IsUnmerged name others forks first last now now why
unmerged name others forks first held last read old now (merges.Take why) opened never = absurd never
unmerged name others forks first held last read old now (merges.Other at why) opened stops = (refl, held, read, old, opened, stops.0, stops.1)
unmerged name others forks first held last read old now (merges.Forks at stamps) opened forked = (refl, held, read, old, opened, forked)
unmerged name others forks first held last read old now (merges.Keep why) opened never = absurd never
