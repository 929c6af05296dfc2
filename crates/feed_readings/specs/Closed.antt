-- What a part of a set shows, by the walk of the whole set.
use Rattle.std.specs.Prelude.{◌≡◌, ◌⊎◌, Bool, true, not, ◌&&◌, map}
use Rattle.std.specs.List.{filter}
use Rattle.desk_ops.specs.Held.{IsUnforked, is_borne_in, live_inserts_of}
use Rattle.desk_ops.specs.Lists.{Among}
use Rattle.desk_ops.specs.Live.{insert_of}
use Rattle.desk_ops.specs.Op.{Insertion}
use Rattle.desk_ops.specs.OpSet.{OpSet, AllLawful, IsWithin, has_op}
use Rattle.desk_ops.specs.Shown.{is_deleted_in}
use Rattle.desk_ops.specs.Stamp.{head}
use Rattle.desk_seq.specs.declared.Entry.{Entry}
use Rattle.desk_walk.specs.Following.{entries_of}
use Rattle.feed_readings.specs.Merged.{entered, shown_list}

-- each insert of the part that is live in the whole hangs on the head or on what the part holds
abbrev pub IsClosed : OpSet → OpSet → Type 0
IsClosed whole part =
    (x : Insertion) → Among x (live_inserts_of whole) → has_op part (insert_of x) ≡ true → (x.parent ≡ head)
    ⊎ (is_borne_in part x.parent ≡ true)

-- a part of a set that forks no stamp
pub record IsClosedPart (whole part : OpSet) : Type 0 where
  pub lawful : AllLawful whole
  pub own : AllLawful part
  pub unforked : IsUnforked whole
  pub within : IsWithin part whole
  pub closed : IsClosed whole part

-- whether a part shows an element of the whole's walk: where it bears the stamp, and does not delete it
abbrev pub shows : OpSet → Entry → Bool
shows part e = is_borne_in part e.stamp && not (is_deleted_in part e.stamp)

-- what a closed part shows is the walk of the whole, without what it does not show
abbrev pub PartsShowOfTheWalk : Type 0
PartsShowOfTheWalk = (whole part : OpSet) → IsClosedPart whole part
    → shown_list part ≡ map entered (filter (shows part) (entries_of whole))
