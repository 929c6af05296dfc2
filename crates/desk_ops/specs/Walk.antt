-- The tree of the live inserts, walked.
use Rattle.std.specs.Prelude.{true, false, List, [], ◌∷◌, ◌++◌}
use Rattle.desk_ops.specs.declared.op.Stamp.{Stamp}
use Rattle.desk_ops.specs.declared.op.Op.{Op}
use Rattle.desk_ops.specs.Stamp.{same, head}
use Rattle.desk_ops.specs.Op.{Insertion}
use Rattle.desk_ops.specs.OpSet.{OpSet, in_order}
use Rattle.desk_ops.specs.Held.{live_inserts}

-- of inserts in ascending order: what hangs on s, greatest stamp first, each directly followed by what hangs on it
unfoldable pub walk_from : List Insertion → Stamp → List Insertion
walk_from [] s = []
walk_from (x ∷ later) s = elim (same x.parent s) [
  | true ↦ walk_from later s ++ x ∷ walk_from later x.stamp
  | false ↦ walk_from later s
]

unfoldable pub walk : List Op → List Insertion
walk ops = walk_from (live_inserts ops) head

abbrev pub walk_of : OpSet → List Insertion
walk_of h = walk (in_order h)
