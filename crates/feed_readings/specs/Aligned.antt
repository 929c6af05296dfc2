-- Cuts are the same elements in all four lists, and those of sets stand in one order.
use Rattle.std.specs.Prelude.{◌≡◌, ◌<◌, ℕ, true, zero, suc, List, [], ◌∷◌}
use Rattle.desk_ops.specs.declared.op.Stamp.{Stamp}
use Rattle.desk_ops.specs.Lists.{Among, Precedes}
use Rattle.desk_ops.specs.OpSet.{OpSet, AllLawful, union}
use Rattle.feed_readings.specs.declared.reading.Point.{Point}
use Rattle.feed_readings.specs.declared.reading.Shown.{Shown}
use Rattle.feed_readings.specs.Cuts.{cuts, is_white_at}
use Rattle.feed_readings.specs.Merged.{in_common, shown_list}

-- a white element with the stamp stands at the place
abbrev pub StandsAt : List Shown → ℕ → Stamp → Type 0
StandsAt [] place stamp = ⊥
StandsAt (element ∷ list) zero stamp = is_white_at stamp element ≡ true
StandsAt (element ∷ list) (suc place) stamp = StandsAt list place stamp

-- at a point all four lists have a white element of one stamp
pub record IsShared (base one other both : List Shown) (point : Point) : Type 0 where
  pub stamp : Stamp
  pub in_base : StandsAt base point.base stamp
  pub in_one : StandsAt one point.one stamp
  pub in_other : StandsAt other point.other stamp
  pub in_both : StandsAt both point.both stamp

-- so it is at each cut
abbrev pub CutsAreShared : Type 0
CutsAreShared = (base one other both : List Shown) (cut : Point) → Among cut (cuts base one other both)
    → IsShared base one other both cut

-- a point comes before another in all four lists
pub record ComesBefore (first second : Point) : Type 0 where
  pub in_base : first.base < second.base
  pub in_one : first.one < second.one
  pub in_other : first.other < second.other
  pub in_both : first.both < second.both

-- the cuts of two sets, of what they have in common, and of what both make
abbrev pub cuts_of_sets : OpSet → OpSet → List Point
cuts_of_sets one other =
    cuts (shown_list (in_common one other)) (shown_list one) (shown_list other) (shown_list (union one other))

-- each comes before the next in all four
abbrev pub CutsRise : Type 0
CutsRise = (one other : OpSet) → AllLawful one → AllLawful other → (first second : Point)
    → Precedes first second (cuts_of_sets one other) → ComesBefore first second
