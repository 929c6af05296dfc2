-- When nothing waits any more: the inserts taken in are the live ones.
use Rattle.std.specs.Prelude.{◌≡◌, List, ◌⊎◌}
use Rattle.desk_ops.specs.declared.op.Stamp.{Stamp}
use Rattle.desk_ops.specs.Stamp.{head}
use Rattle.desk_ops.specs.Op.{Insertion}
use Rattle.desk_ops.specs.OpSet.{OpSet, in_order}
use Rattle.desk_ops.specs.Lists.{Among}
use Rattle.desk_ops.specs.Scan.{IsAscending}
use Rattle.desk_ops.specs.Held.{clear_inserts}

-- the head, or the stamp of one of the list
abbrev pub IsThere : List Insertion → Stamp → Type 0
IsThere xs s = (s ≡ head) ⊎ ((y : Insertion) × Among y xs × (y.stamp ≡ s))

-- clear inserts of the set, each under another of them or the head
pub record IsTakenIn (h : OpSet) (xs : List Insertion) : Type 0 where
  pub ascending : IsAscending xs
  pub of_set : (x : Insertion) → Among x xs → Among x (clear_inserts (in_order h))
  pub closed : (x : Insertion) → Among x xs → IsThere xs x.parent

-- and none is left out that could be there
pub record IsDrained (h : OpSet) (xs : List Insertion) : Type 0 where
  pub taken : IsTakenIn h xs
  pub no_more : (x : Insertion) → Among x (clear_inserts (in_order h)) → IsThere xs x.parent → Among x xs
