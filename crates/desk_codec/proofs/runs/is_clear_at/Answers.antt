use Rattle.std.proofs.Common.{◌≡◌, ◌+◌, ◌-◌, ◌<◌, false, length, get_or, ◌∙◌, arith}
use Rattle.desk_ops.specs.declared.op.Op.{Op}
use Rattle.desk_ops.specs.Op.{stamp_of}
use Rattle.desk_ops.specs.Stamp.{same}
use Rattle.desk_codec.proofs.RunPlaces.{neighbour, alone-sole, left-sole, right-sole}
use Rattle.desk_codec.proofs.runs.is_clear_at.Goals as goal
use Rattle.desk_codec.proofs.runs.is_clear_at.Goals.{else-at-gt0-via-then-at-gt0+else-is_same, else-at-gt0-via-else-at-gt0, else-at-ops-via-then-at-ops+else-is_same-2, else-at-ops-via-else-at-ops}

pub returns-then-is_same : goal.returns-then-is_same
returns-then-is_same c = λ op h.
    left-sole c.args.ops.now c.requires.rising c.args.at op h c.if-at-gt0.true
    (λ d. neighbour c.args.ops.now c.args.at (c.args.at - 1) op _ _ c.stamp.result c.stamp-stamp.result c.is_same.result h (let w = h.within in omega arith) c.stamp.ensures c.stamp-stamp.ensures c.is_same.ensures d ∙ c.if-is_same.true)

pub returns-then-is_same-2 : goal.returns-then-is_same-2
returns-then-is_same-2 c = λ op h.
    let more : c.args.at + 1 < length c.args.ops.now = omega arith in
    right-sole c.args.ops.now c.requires.rising c.args.at op h more
    (λ d. neighbour c.args.ops.now c.args.at (c.args.at + 1) op _ _ c.stamp-then-at-ops.result c.stamp-stamp.result c.is_same-then-at-ops.result h more c.stamp-then-at-ops.ensures c.stamp-stamp.ensures c.is_same-then-at-ops.ensures d ∙ c.if-is_same-2.true)

pub returns : goal.returns
returns c = λ op h.
    let left : (d : Op) → 0 < c.args.at → same (stamp_of (get_or c.args.ops.now (c.args.at - 1) d)) (stamp_of op) ≡ false =
    elim c.else-at-gt0.branch [
      | else-at-gt0-via-then-at-gt0+else-is_same w ↦ λ d some. neighbour c.args.ops.now c.args.at (c.args.at - 1) op _ _ w.stamp.result c.stamp-stamp.result w.is_same.result h (let v = h.within in omega arith) w.stamp.ensures c.stamp-stamp.ensures w.is_same.ensures d ∙ w.if-is_same.false
      | else-at-gt0-via-else-at-gt0 w ↦ λ d some. absurd (omega arith)
    ] in
    let right : (d : Op) → c.args.at + 1 < length c.args.ops.now → same (stamp_of (get_or c.args.ops.now (c.args.at + 1) d)) (stamp_of op) ≡ false =
    elim c.else-at-ops.branch [
      | else-at-ops-via-then-at-ops+else-is_same-2 w ↦ λ d more. neighbour c.args.ops.now c.args.at (c.args.at + 1) op _ _ w.stamp-then-at-ops.result c.stamp-stamp.result w.is_same-then-at-ops.result h more w.stamp-then-at-ops.ensures c.stamp-stamp.ensures w.is_same-then-at-ops.ensures d ∙ w.if-is_same-2.false
      | else-at-ops-via-else-at-ops w ↦ λ d more. absurd (omega arith)
    ] in
    alone-sole c.args.ops.now c.requires.rising c.args.at op h left right
