-- Operations whose stamps differ stand as their stamps do.
use Rattle.std.proofs.Common.{◌≡◌, false, refl, sym, ap, ◌∙◌, true≢false}
use Rattle.std.specs.declared.cmp.Ordering.{Ordering}
use Rattle.std.specs.declared.cmp.Ordering.TheVariants.{Less, Equal, Greater}
use Rattle.std.specs.Ordering.{nat_cmp, is_lt, ordering_then}
use Rattle.std.specs.Cmp.Lexicographic.{slice_cmp}
use Rattle.desk_ops.specs.declared.op.Op.{Op}
use Rattle.desk_ops.specs.Op.{stamp_of}
use Rattle.desk_ops.specs.Order.{op_cmp, rest_of}
use Rattle.desk_ops.specs.Stamp.{before, same, stamp_cmp}
use Rattle.desk_ops.proofs.Means.{by_stamp}
use Rattle.desk_ops.proofs.Stamps.{same-from, stamp_tied}

pub before_by_stamp : (o p : Op) → same (stamp_of o) (stamp_of p) ≡ false → before (stamp_of o) (stamp_of p) ≡ is_lt (op_cmp o p)
unfolding before
before_by_stamp o p apart = go (stamp_cmp (stamp_of o) (stamp_of p)) refl ∙ ap is_lt (sym (by_stamp o p))
  where
    go : (c : Ordering) → stamp_cmp (stamp_of o) (stamp_of p) ≡ c → is_lt (stamp_cmp (stamp_of o) (stamp_of p)) ≡ is_lt (ordering_then (stamp_cmp (stamp_of o) (stamp_of p)) (slice_cmp nat_cmp (rest_of o) (rest_of p)))
    go Less e = rw e refl
    go Equal e = absurd (true≢false (sym (same-from (stamp_of o) (stamp_of p) (stamp_tied (stamp_of o) (stamp_of p) e)) ∙ apart))
    go Greater e = rw e refl
