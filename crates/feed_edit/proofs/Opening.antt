-- A feed that is read and opened, or not.
use Rattle.std.proofs.Common.{◌≡◌, ◌<◌, ℕ, List, Option, inr, refl}
use Rattle.std.specs.Prelude.{◌≢◌}
use Rattle.desk_ops.specs.declared.op.Op.{Op}
use Rattle.desk_ops.specs.OpSet.{OpSet, max_ops, no_ops, size, with_all}
use Rattle.feed_files.specs.Files.{Shelf}
use Rattle.desk_held.specs.declared.AddRefusal.{AddRefusal}
use Rattle.desk_held.specs.declared.AddRefusal.TheVariants as adds
use Rattle.feed_edit.specs.Exporting.{IsClosedUntil, ops_until}
use Rattle.feed_edit.specs.Fault.{of_adding}
use Rattle.feed_edit.specs.Merging.{IsFeedOf, Refuses}
use Rattle.feed_edit.specs.declared.fault.FeedTrouble.{FeedTrouble}
use Rattle.feed_edit.specs.declared.fault.FeedTrouble.TheVariants as troubles

pub closed_by : (until : Option ℕ) (name : List ℕ) (before after : Shelf) (why : FeedTrouble) → ((set : OpSet) → Refuses set name before after why) → why ≢ troubles.Full → IsClosedUntil until name before after why
closed_by until name before after (troubles.File file) refuses never = refuses no_ops
closed_by until name before after (troubles.Feed fault) refuses never = refuses no_ops
closed_by until name before after troubles.Full refuses never = absurd (never refl)
closed_by until name before after troubles.NoMemory refuses never = refuses no_ops

pub crowded : (until : Option ℕ) (name : List ℕ) (before after : Shelf) (ops : List Op) (why : AddRefusal) → IsFeedOf (before.kept name) ops → after.failures ≡ before.failures → (why ≡ adds.Full → max_ops < size (with_all no_ops (ops_until until ops)))
    → IsClosedUntil until name before after (of_adding why)
crowded until name before after ops adds.Full feed counted full = (ops, feed, counted, full refl)
crowded until name before after ops adds.NoMemory feed counted full = (feed.0, (feed.1, counted), inr (ops, feed.2))
