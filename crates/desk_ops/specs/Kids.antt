-- The walk in the words of children.
use Rattle.std.specs.Prelude.{◌≡◌, ◌↔◌, List, ◌∷◌, reverse}
use Rattle.std.specs.List.{filter, flat_map}
use Rattle.desk_ops.specs.declared.op.Stamp.{Stamp}
use Rattle.desk_ops.specs.declared.op.Op.{Op}
use Rattle.desk_ops.specs.Stamp.{same, head}
use Rattle.desk_ops.specs.Op.{Insertion}
use Rattle.desk_ops.specs.Lists.{Among}
use Rattle.desk_ops.specs.Live.{IsFalling}
use Rattle.desk_ops.specs.Held.{live_inserts}
use Rattle.desk_ops.specs.Walk.{walk_from, walk}

-- the live inserts with parent s, greatest stamp first
abbrev pub kids : List Op → Stamp → List Insertion
kids ops s = reverse (filter (λ x. same x.parent s) (live_inserts ops))

-- what hangs on s
abbrev pub walk_below : List Op → Stamp → List Insertion
walk_below ops s = walk_from (live_inserts ops) s

-- the kids of a stamp are the live inserts with that parent, greatest stamp first; the walk starts at the head,
-- and below each stamp it gives each kid in turn, each directly followed by its own walk
pub record IsWalkOfKids (ops : List Op) : Type 0 where
  pub kids_of : (s : Stamp) (x : Insertion) → Among x (kids ops s) ↔ (Among x (live_inserts ops) × (x.parent ≡ s))
  pub greatest_first : (s : Stamp) → IsFalling (kids ops s)
  pub starts : walk ops ≡ walk_below ops head
  pub goes_on : (s : Stamp) → walk_below ops s ≡ flat_map (λ k. k ∷ walk_below ops k.stamp) (kids ops s)
