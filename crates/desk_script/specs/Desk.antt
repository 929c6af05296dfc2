-- What a script's lines act on.
use Rattle.std.specs.Prelude.{◌≡◌, ℕ, Some}
use Rattle.std.specs.FinMap as fin
use Rattle.desk_ops.specs.OpSet.{OpSet}
use Rattle.feed_files.specs.Files.{Shelf}
use Rattle.script_world.specs.Sites.{Sites}

-- the sites of a world, and the files
pub record Desk : Type 0 where
  pub sites : Sites
  pub shelf : Shelf

abbrev pub desk : Sites → Shelf → Desk
desk sites shelf = record { sites = sites; shelf = shelf }

-- each site that was there still is
abbrev pub KeepsSites : Sites → Sites → Type 0
KeepsSites old new = (n : ℕ) (set : OpSet) → fin.get old n ≡ Some set → (later : OpSet) × (fin.get new n ≡ Some later)
