-- A stored feed that a room works on: when FEED.last lets it in, and what is noted of it.
use Rattle.std.specs.Prelude.{◌≡◌, ◌⊎◌, ℕ, Bool, true, false, not, List, Option, None, Some}
use Rattle.desk_ops.specs.OpSet.{OpSet}
use Rattle.feed_files.specs.Files.{Shelf, Spares, Stays, new_name}
use Rattle.feed_stored.specs.Greatest.{greatest_of}
use Rattle.feed_stored.specs.Last.{IsHeldBack, IsNotOlder, IsNoted, last_name, stamp_by}
use Rattle.feed_stored.specs.declared.last_fault.LastFault.{LastFault}

-- whether a feed is compared with FEED.last: one was read, and an older one is not wanted
abbrev pub is_compared : Bool → Option (List ℕ) → Bool
is_compared older None = false
is_compared older (Some bytes) = not older

-- the feed was compared, and holds no less of the site than it has made here; or it was not compared, and nothing was
-- done
abbrev pub IsLetIn : List ℕ → ℕ → Bool → OpSet → Shelf → Shelf → Type 0
IsLetIn name site true set held last = Stays held last × IsNotOlder name site (greatest_of set site) held last
IsLetIn name site false set held last = last ≡ held

-- the feed was compared, and is older; or memory was refused for that
abbrev pub IsKeptOut : List ℕ → ℕ → Bool → OpSet → Shelf → Shelf → LastFault → Type 0
IsKeptOut name site compared set held last why =
    (compared ≡ true) × Stays held last × IsHeldBack name site (greatest_of set site) held why

-- the greatest counter of the site stands in FEED.last, or that file is as it was
abbrev pub IsMarked : List ℕ → ℕ → OpSet → Shelf → Shelf → Type 0
IsMarked name site set stored last =
    IsNoted name (stamp_by set site) stored last ⊎ Spares (new_name (last_name name)) stored.kept last.kept
