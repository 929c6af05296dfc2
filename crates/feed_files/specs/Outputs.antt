-- Files that are made, each stored over a file of its own kind alone.
use Rattle.std.specs.Prelude.{◌≡◌, ◌≢◌, ◌⊎◌, ℕ, Bool, false, List, Some, None, Err}
use Rattle.feed_files.specs.Files.{HasNoPlace, IsCounted, Kept, Names, Reads, Shelf, Spares, Stays, new_name}
use Rattle.feed_files.specs.declared.files.FileRefusal.{FileRefusal}
use Rattle.feed_files.specs.declared.files.FileRefusal.TheVariants as refusals
use Rattle.feed_files.specs.Kinds.{Stands}
use Rattle.feed_files.specs.declared.kinds.Kind.{Kind}
use Rattle.feed_files.specs.declared.output_fault.OutputFault.{OutputFault}
use Rattle.feed_files.specs.declared.output_fault.OutputFault.TheVariants as faults

-- the name under which a file is to be stored, and whether it takes the place of whatever stands there
pub record Destination : Type 0 where
  pub name : List ℕ
  pub force : Bool

abbrev pub destination : List ℕ → Bool → Destination
destination name force = record { name = name; force = force }

-- a name is free for a file of this kind: none stands there, or an empty one, or one of this kind
abbrev pub IsFree : Kind → Kept → Type 0
IsFree kind kept = Stands kept None ⊎ Stands kept (Some kind)

-- a file of another kind stands there
abbrev pub IsTaken : Kind → Kept → Kind → Type 0
IsTaken kind kept other = Stands kept (Some other) × (other ≢ kind)

-- what stands there may be replaced by a file of this kind: the name is free for it, or that is forced
abbrev pub GivesWay : Destination → Kind → Names → Type 0
GivesWay to kind before = to.force ≡ false → IsFree kind (before to.name)

-- what stands under a name was not read, for another cause than that no file is there or that it is too large, and no
-- file has changed
abbrev pub IsUnseen : List ℕ → Shelf → Shelf → FileRefusal → Type 0
IsUnseen name before after why =
    (why ≢ refusals.Missing) × (why ≢ refusals.Large) × Reads (before.kept name) (Err why) × IsCounted why before after
    × Stays before after

-- a file was not stored, and nothing but what stands under the name of the writing may have changed: Missing comes only
-- where no file can have that name or the file's
abbrev pub IsUnstored : List ℕ → Shelf → Shelf → FileRefusal → Type 0
IsUnstored name before after why =
    Spares (new_name name) before.kept after.kept × (why ≢ refusals.Large)
    × (why ≡ refusals.Missing → HasNoPlace name before.kept) × IsCounted why before after

-- Why a file of this kind was not stored: another kind stands there, and nothing has changed; or what stands there was
-- not read; or it gave way, and the file was not stored.
abbrev pub IsNotPut : Destination → Kind → Shelf → Shelf → OutputFault → Type 0
IsNotPut to kind before after (faults.Taken other) = (to.force ≡ false) × IsTaken kind (before.kept to.name) other
    × (after ≡ before)
IsNotPut to kind before after (faults.File why) =
    ((to.force ≡ false) × IsUnseen to.name before after why)
    ⊎ (GivesWay to kind before.kept × IsUnstored to.name before after why)
