-- What was stored under a name, and what is.
use Rattle.std.specs.Prelude.{◌≡◌, ◌≢◌, ℕ, List, [], Option, None, Some, Result, Ok, Err, Vec}
use Rattle.desk_ops.specs.declared.op.Op.{Op}
use Rattle.desk_ops.specs.OpSet.{OpSet, no_ops, with_all}
use Rattle.desk_codec.specs.Feed.{IsFeed}
use Rattle.feed_files.specs.Files.{IsReplaced, Shelf}
use Rattle.feed_files.specs.declared.files.FileRefusal.{FileRefusal}
use Rattle.feed_files.specs.declared.files.FileRefusal.TheVariants as refusals

-- what was stored is a feed of these operations, or there is no file, and so no operation
abbrev pub Stores : Option (List ℕ) → List Op → Type 0
Stores (Some bytes) ops = IsFeed bytes ops
Stores None ops = ops ≡ []

-- the set of the operations of what was stored
abbrev pub Opens : Option (List ℕ) → OpSet → Type 0
Opens read set = (ops : List Op) × Stores read ops × (set ≡ with_all no_ops ops)

-- what was read of a stored feed
abbrev pub was_read : {A : Type 0} → Option (Vec ℕ A) → Option (List ℕ)
was_read (Some bytes) = Some bytes.items
was_read None = None

-- what a read of files answers then
abbrev pub as_read : Option (List ℕ) → Result (List ℕ) FileRefusal
as_read (Some bytes) = Ok bytes
as_read None = Err refusals.Missing

-- these bytes were stored, or nothing was written, since they were what was read
abbrev pub IsStoredAs : List ℕ → List ℕ → Option (List ℕ) → Shelf → Shelf → Type 0
IsStoredAs name bytes read before last =
    (read ≡ Some bytes → last ≡ before) × (read ≢ Some bytes → IsReplaced name bytes before.kept last.kept)
    × (last.failures ≡ before.failures)
