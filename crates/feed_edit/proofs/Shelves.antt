-- Files of which one was read, or is not there.
use Rattle.std.proofs.Common.{◌≡◌, ℕ}
use Rattle.std.specs.Prelude.{Option, None, Some, Vec}
use Rattle.feed_files.specs.Files.{Counts, Shelf}
use Rattle.feed_stored.specs.Stored.{as_read, was_read}

pub read_counts : {A : Type 0} (old : Option (Vec ℕ A)) (before after : Shelf) → Counts (as_read (was_read old)) before after → after.failures ≡ before.failures
read_counts (Some bytes) before after counts = counts
read_counts None before after counts = counts
