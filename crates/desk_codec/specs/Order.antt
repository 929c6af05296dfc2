-- The order of operations, said of their bytes.
use Rattle.std.specs.Prelude.{◌≡◌, ◌↔◌, ◌⊎◌}
use Rattle.std.specs.Ordering.{nat_cmp, ordering_then}
use Rattle.std.specs.Cmp.Lexicographic.{slice_cmp}
use Rattle.std.specs.declared.cmp.Ordering.TheVariants.{Less}
use Rattle.desk_ops.specs.declared.op.Op.{Op}
use Rattle.desk_ops.specs.Op.{stamp_of}
use Rattle.desk_ops.specs.Stamp.{stamp_cmp}
use Rattle.desk_ops.specs.Order.{op_cmp}
use Rattle.desk_codec.specs.Spelling.{spelling, IsValue}

-- operations stand by stamp, and those of one stamp by their bytes, the first bytes that differ deciding
pub record OrderOfBytes : Type 0 where
  pub compared : (o p : Op) → IsValue o → IsValue p
      → op_cmp o p ≡ ordering_then (stamp_cmp (stamp_of o) (stamp_of p)) (slice_cmp nat_cmp (spelling o) (spelling p))
  pub less : (o p : Op) → IsValue o → IsValue p
      → (op_cmp o p ≡ Less)
      ↔ ((stamp_cmp (stamp_of o) (stamp_of p) ≡ Less)
      ⊎ ((stamp_of o ≡ stamp_of p) × (slice_cmp nat_cmp (spelling o) (spelling p) ≡ Less)))
