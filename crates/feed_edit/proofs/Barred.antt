-- A stored feed whose forks find no room in memory.
use Rattle.std.proofs.Common.{◌≡◌, ◌∙◌, List, [], ℕ, ap, inr, refl, sym}
use Rattle.std.specs.Prelude.{None, Option, Some}
use Rattle.desk_ops.specs.Faults.{copy_faults, faults_of}
use Rattle.desk_ops.specs.OpSet.{OpSet, in_order, no_ops, with_all}
use Rattle.desk_ops.proofs.OpSets.{in_order-from_rising, no_ops-from_rising}
use Rattle.feed_files.specs.Files.{Counts, Shelf}
use Rattle.feed_files.proofs.Shelves.{stays_same}
use Rattle.feed_stored.specs.Fault.{AsksMemory}
use Rattle.feed_stored.specs.Stored.{Opens, as_read}
use Rattle.feed_edit.specs.Merging.{IsBarred, IsOpened}
use Rattle.feed_edit.specs.declared.fault.FeedTrouble.TheVariants as troubles
use Rattle.feed_edit.specs.declared.fault.TakeFault.TheVariants as takes

none_faulty : faults_of no_ops ≡ []
unfolding copy_faults
none_faulty = ap copy_faults (ap in_order (sym no_ops-from_rising) ∙ in_order-from_rising [] tt)

counts : (held : Shelf) (read : Option (List ℕ)) → Counts (as_read read) held held
counts held (Some bytes) = refl
counts held None = refl

asks : (set : OpSet) (read : Option (List ℕ)) → Opens read set → (faults_of set ≡ [] → ⊥) → AsksMemory read
asks set (Some bytes) (ops, stores, is) faulty = inr (ops, stores)
asks set None (ops, none, is) faulty = faulty (ap faults_of (is ∙ ap (with_all no_ops) none) ∙ none_faulty)

-- a copy with a fault is of a feed for whose bytes memory is asked
pub barred : (name : List ℕ) (first held : Shelf) (read : Option (List ℕ)) (set : OpSet) → IsOpened name first held read set → (faults_of set ≡ [] → ⊥) → IsBarred name first held (takes.Feed troubles.NoMemory)
barred name first held read set (now_held, reads, opens) faulty = (held, now_held, (stays_same held, read, reads, counts held read, asks set read opens faulty))
