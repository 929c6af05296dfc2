-- The greatest counter that a site has made.
use Rattle.std.specs.Prelude.{ℕ, max, ◌==◌, List, [], ◌∷◌, if◌then◌else◌}
use Rattle.desk_ops.specs.declared.op.Op.{Op}
use Rattle.desk_ops.specs.Op.{stamp_of}
use Rattle.desk_ops.specs.OpSet.{OpSet, in_order}

-- the counter of an operation that the site bears; 0 of any other
abbrev pub counter_by : ℕ → Op → ℕ
counter_by site op = if (stamp_of op).site == site then (stamp_of op).counter else 0

-- the greatest of a number and the counters of the operations that the site bears
abbrev pub greatest_from : ℕ → List Op → ℕ → ℕ
greatest_from n [] site = n
greatest_from n (op ∷ ops) site = greatest_from (max n (counter_by site op)) ops site

-- the greatest counter of the operations of a set that the site bears, or 0 where it bears none
abbrev pub greatest_of : OpSet → ℕ → ℕ
greatest_of set site = greatest_from 0 (in_order set) site
