-- What is not borne is not held.
use Rattle.std.proofs.Common.{◌≡◌, false, refl, sym, ◌∙◌}
use Rattle.std.proofs.lemmas.Bool.{true≢false}
use Rattle.desk_ops.specs.declared.op.Op.{Op}
use Rattle.desk_ops.specs.Op.{stamp_of}
use Rattle.desk_ops.specs.OpSet.{OpSet, has_op}
use Rattle.desk_ops.specs.Held.{is_borne_in}
use Rattle.desk_ops.proofs.Stamps.{by_cases}
use Rattle.desk_ops.proofs.Bearers.{op_borne}

pub not_known : (h : OpSet) (o : Op) → is_borne_in h (stamp_of o) ≡ false → has_op h o ≡ false
not_known h o none = by_cases (has_op h o) (λ e. absurd (true≢false (sym (op_borne h (stamp_of o) (o, e, refl)) ∙ none))) (λ e. e)
