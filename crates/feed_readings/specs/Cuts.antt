-- Where four lists of shown elements are cut: at the white elements that all of them have.
use Rattle.std.specs.Prelude.{ℕ, ◌+◌, Bool, ◌&&◌, ◌||◌, if◌then◌else◌, List, [], ◌∷◌, Option, Some, None}
use Rattle.desk_ops.specs.declared.op.Stamp.{Stamp}
use Rattle.desk_ops.specs.declared.op.Symbol.{Symbol}
use Rattle.desk_ops.specs.Op.{is_line_feed, is_space}
use Rattle.desk_ops.specs.Stamp.{same}
use Rattle.feed_readings.specs.declared.reading.Point.{Point}
use Rattle.feed_readings.specs.declared.reading.Shown.{Shown}

-- a space or a line feed
abbrev pub is_white : Symbol → Bool
is_white symbol = is_space symbol || is_line_feed symbol

-- a white element with the stamp
abbrev pub is_white_at : Stamp → Shown → Bool
is_white_at stamp element = is_white element.symbol && same element.stamp stamp

-- the first place, counted from n, of a white element with the stamp
abbrev pub place_from : ℕ → List Shown → Stamp → Option ℕ
place_from n [] stamp = None
place_from n (element ∷ list) stamp = if is_white_at stamp element then Some n else place_from (n + 1) list stamp

abbrev pub place_of : List Shown → Stamp → Option ℕ
place_of list stamp = place_from 0 list stamp

-- a point is a place in each of the four lists: there is one where the first three have theirs
abbrev pub point_of : Option ℕ → Option ℕ → Option ℕ → ℕ → Option Point
point_of None one other both = None
point_of (Some base) None other both = None
point_of (Some base) (Some one) None both = None
point_of (Some base) (Some one) (Some other) both = Some (record { base = base; one = one; other = other; both = both })

-- the point of an element that stands at a place of the fourth list: it is a cut where it is white, and each of the
-- others has a white one with its stamp
abbrev pub cut_of : List Shown → List Shown → List Shown → ℕ → Shown → Option Point
cut_of base one other both element =
    if is_white element.symbol
    then point_of (place_of base element.stamp) (place_of one element.stamp) (place_of other element.stamp) both
    else None

-- a point, if there is one, before others
abbrev pub with_cut : Option Point → List Point → List Point
with_cut None points = points
with_cut (Some point) points = point ∷ points

-- the cuts among elements that stand from place n of the fourth list on
abbrev pub cuts_from : List Shown → List Shown → List Shown → ℕ → List Shown → List Point
cuts_from base one other n [] = []
cuts_from base one other n (element ∷ list) =
    with_cut (cut_of base one other n element) (cuts_from base one other (n + 1) list)

-- the cuts, in the order of the fourth list
abbrev pub cuts : List Shown → List Shown → List Shown → List Shown → List Point
cuts base one other both = cuts_from base one other 0 both
