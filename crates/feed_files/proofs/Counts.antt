-- Counts of a device's failures, over calls.
use Rattle.std.proofs.Common.{◌≡◌, refl}
use Rattle.feed_files.specs.declared.files.FileRefusal.{FileRefusal}
use Rattle.std.specs.Prelude.{◌≢◌, Result, Ok, Err, IfErr}
use Rattle.feed_files.specs.declared.files.FileRefusal.TheVariants as files
use Rattle.feed_files.specs.Files.{Counts, Shelf}

-- a call that is not refused for the device, and counts nothing
pub counts_none : {T : Type 0} (P : FileRefusal → Type 0) (r : Result T FileRefusal) (before after : Shelf) → IfErr r (λ e. (e ≢ files.Device) × P e) → after.failures ≡ before.failures → Counts r before after
counts_none P (Ok v) before after other same = same
counts_none P (Err files.Missing) before after other same = same
counts_none P (Err files.Device) before after other same = absurd (other.0 refl)
counts_none P (Err files.Large) before after other same = same
counts_none P (Err files.NoMemory) before after other same = same
