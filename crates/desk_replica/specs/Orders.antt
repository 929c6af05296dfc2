-- The order of what sets show. An element is known by its stamp.
use Rattle.std.specs.Prelude.{◌≡◌, ◌⊎◌, List, [], ◌∷◌, ◌++◌, map}
use Rattle.std.specs.declared.cmp.Ordering.TheVariants.{Less}
use Rattle.desk_ops.specs.declared.op.Stamp.{Stamp}
use Rattle.desk_ops.specs.Stamp.{head}
use Rattle.desk_ops.specs.Op.{Insertion}
use Rattle.desk_ops.specs.OpSet.{OpSet, union, IsWithin, AllLawful}
use Rattle.desk_ops.specs.Lists.{Among, Precedes}
use Rattle.desk_ops.specs.Held.{live_inserts_of, IsUnforked}
use Rattle.desk_ops.specs.Walk.{walk_of}
use Rattle.desk_ops.specs.PathOrder.{path_of, path_cmp, InPathOrder}
use Rattle.desk_ops.specs.Shown.{shown_of}

-- of what the set shows, from the first element to the last
abbrev pub shown_stamps : OpSet → List Stamp
shown_stamps h = map (λ x. x.stamp) (shown_of h)

-- of two that both lists have, the one that stands first in the one does so in the other
abbrev pub StandAlike : List Stamp → List Stamp → Type 0
StandAlike old after = (s t : Stamp) → Precedes s t old → Among s after → Among t after → Precedes s t after

-- elements that both sets show stand in one order
abbrev pub KeepsOrder : OpSet → OpSet → Type 0
KeepsOrder old after = StandAlike (shown_stamps old) (shown_stamps after)

-- ---- one order of all that a set has

-- the path of x stands before that of y
abbrev pub StandsBefore : OpSet → Insertion → Insertion → Type 0
StandsBefore u x y = path_cmp (path_of u x.stamp) (path_of u y.stamp) ≡ Less

-- path order is a total order of the set's live inserts
pub record IsOrderOfLive (u : OpSet) : Type 0 where
  pub never_itself : (x : Insertion) → StandsBefore u x x → ⊥
  pub onward : (x y z : Insertion) → StandsBefore u x y → StandsBefore u y z → StandsBefore u x z
  pub either : (x y : Insertion) → Among x (live_inserts_of u) → Among y (live_inserts_of u) → (x ≡ y)
      ⊎ (StandsBefore u x y ⊎ StandsBefore u y x)

-- what h shows is live in the set u, and each element stands by its path there before all that follow it
pub record StandsIn (u h : OpSet) : Type 0 where
  pub live : (x : Insertion) → Among x (shown_of h) → Among x (live_inserts_of u)
  pub in_order : InPathOrder (path_of u) (shown_of h)

-- one order of the live inserts of two sets' union holds what both show, and what a third does
pub record ShareOneOrder (h g k : OpSet) : Type 0 where
  pub total : IsOrderOfLive (union h g)
  pub old : StandsIn (union h g) h
  pub other : StandsIn (union h g) g
  pub after : StandsIn (union h g) k

-- ---- laws

pub record OneOrderOfSets : Type 0 where
  -- a list stands in its own order, and two elements turned round do not
  pub itself : (ss : List Stamp) → StandAlike ss ss
  pub turned : (s t : Stamp) → StandAlike (s ∷ t ∷ []) (t ∷ s ∷ []) → s ≡ t
  -- of two different elements that a set shows one stands first, and never both
  pub either : (h : OpSet) (s t : Stamp) → Among s (shown_stamps h) → Among t (shown_stamps h) → (s ≡ t)
      ⊎ (Precedes s t (shown_stamps h) ⊎ Precedes t s (shown_stamps h))
  pub not_both : (h : OpSet) → AllLawful h → (s t : Stamp) → Precedes s t (shown_stamps h)
      → Precedes t s (shown_stamps h) → ⊥
  -- a set keeps the order of each of its parts, and each part that of the set
  pub larger : (h g : OpSet) → AllLawful h → AllLawful g → IsWithin h g → KeepsOrder h g
  pub back : (h g : OpSet) → AllLawful g → KeepsOrder h g → KeepsOrder g h
  -- the path of a live insert is that of its parent, and then its stamp; forked or not, a set's walk stands in path
  -- order
  pub at_head : (h : OpSet) → AllLawful h → path_of h head ≡ []
  pub below : (h : OpSet) → AllLawful h → (x : Insertion) → Among x (live_inserts_of h)
      → path_of h x.stamp ≡ path_of h x.parent ++ x.stamp ∷ []
  pub walked : (h : OpSet) → AllLawful h → InPathOrder (path_of h) (walk_of h)
  -- where no stamp of a set is forked, one order holds what all its parts show
  pub total : (u : OpSet) → AllLawful u → IsUnforked u → IsOrderOfLive u
  pub stands : (u h : OpSet) → AllLawful u → AllLawful h → IsUnforked u → IsWithin h u → StandsIn u h
  -- so any two of them show what they share in the same order
  pub alike : (u h g : OpSet) → StandsIn u h → StandsIn u g → KeepsOrder h g
