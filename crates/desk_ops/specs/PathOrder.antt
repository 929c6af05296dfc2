-- The order of the elements of a walk, by their paths.
use Rattle.std.specs.Prelude.{◌≡◌, true, false, List, [], ◌∷◌, ◌++◌, reverse}
use Rattle.std.specs.List.{AllByRecursion}
use Rattle.std.specs.Ordering.{flip_args}
use Rattle.std.specs.Cmp.Lexicographic.{slice_cmp}
use Rattle.std.specs.declared.cmp.Ordering.{Ordering}
use Rattle.std.specs.declared.cmp.Ordering.TheVariants.{Less}
use Rattle.desk_ops.specs.declared.op.Stamp.{Stamp}
use Rattle.desk_ops.specs.declared.op.Op.{Op}
use Rattle.desk_ops.specs.Stamp.{same, stamp_cmp}
use Rattle.desk_ops.specs.Op.{Insertion}
use Rattle.desk_ops.specs.OpSet.{OpSet, in_order}
use Rattle.desk_ops.specs.Held.{live_inserts}

-- of inserts, greatest stamp first: the stamps from the first that hangs on none of them down to s
unfoldable pub path_in : List Insertion → Stamp → List Stamp
path_in [] s = []
path_in (x ∷ older) s = elim (same x.stamp s)
    [ true ↦ path_in older x.parent ++ x.stamp ∷ [] | false ↦ path_in older s ]

-- from the child of the head down to the live insert
abbrev pub path : List Op → Stamp → List Stamp
path ops s = path_in (reverse (live_inserts ops)) s

-- a proper prefix stands first, and else the greater stamp where the two first differ
unfoldable pub path_cmp : List Stamp → List Stamp → Ordering
path_cmp = slice_cmp (flip_args stamp_cmp)

-- each stands, by its path, before all that follow it
abbrev pub InPathOrder : (Stamp → List Stamp) → List Insertion → Type 0
InPathOrder p [] = Unit {0}
InPathOrder p (x ∷ xs) = AllByRecursion (λ y. path_cmp (p x.stamp) (p y.stamp) ≡ Less) xs × InPathOrder p xs

abbrev pub path_of : OpSet → Stamp → List Stamp
path_of h s = path (in_order h) s
