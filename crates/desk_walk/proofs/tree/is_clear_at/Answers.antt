use Rattle.std.proofs.Common.{◌≡◌, ◌+◌, ◌-◌, ◌<◌, ◌∙◌, ap, sym, subst, arith, length, false, nat_eq, List, ◌⊎◌, inl, inr}
use Rattle.desk_ops.specs.declared.op.Stamp.{Stamp}
use Rattle.desk_ops.specs.declared.op.Op.{Op}
use Rattle.desk_ops.specs.Stamp.{same}
use Rattle.desk_ops.specs.Op.{stamp_of}
use Rattle.desk_ops.specs.OpSet.{in_order}
use Rattle.desk_ops.specs.Held.{is_clear_in}
use Rattle.desk_walk.specs.Tree.{op_at}
use Rattle.desk_walk.proofs.Beside.{stamp-read, forked-beside, clear-last, clear-end}
use Rattle.desk_walk.proofs.tree.is_clear_at.Goals as goal
use Rattle.desk_walk.proofs.tree.is_clear_at.Goals.{else-i-gt0-via-then-i-gt0+else-is_same, else-i-gt0-via-else-i-gt0}

pub returns-then-is_same : goal.returns-then-is_same
returns-then-is_same g c =
    let h = c.args.held.now.ops in
    let i = c.args.i in
    let here = c.stamp-stamp.ensures ∙ stamp-read h c.args.ops.now i _ c.requires.listed c.requires.within in
    let before_it = c.stamp.ensures ∙ stamp-read h c.args.ops.now (i - 1) _ c.requires.listed (omega (arith, c.requires.within)) in
    sym (forked-beside h (i - 1) i (λ e. omega (arith, c.if-i-gt0.true)) (omega (arith, c.requires.within)) c.requires.within
    (ap (λ (t : Stamp). same t (stamp_of (op_at (in_order h) i))) (sym before_it) ∙ ap (same c.stamp.result) (sym here) ∙ sym c.is_same.ensures ∙ c.if-is_same.true))

pub returns-then-i-ops : goal.returns-then-i-ops
returns-then-i-ops g c =
    let h = c.args.held.now.ops in
    let i = c.args.i in
    let here = c.stamp-stamp.ensures ∙ stamp-read h c.args.ops.now i _ c.requires.listed c.requires.within in
    let first : (i ≡ 0) ⊎ (same (stamp_of (op_at (in_order h) (i - 1))) (stamp_of (op_at (in_order h) i)) ≡ false) = elim c.else-i-gt0.branch [
      | else-i-gt0-via-then-i-gt0+else-is_same w ↦
          let before_it = w.stamp.ensures ∙ stamp-read h c.args.ops.now (i - 1) _ c.requires.listed (omega (arith, c.requires.within)) in
          inr (ap (λ (t : Stamp). same t (stamp_of (op_at (in_order h) i))) (sym before_it) ∙ ap (same w.stamp.result) (sym here) ∙ sym w.is_same.ensures ∙ w.if-is_same.false)
      | else-i-gt0-via-else-i-gt0 w ↦ inl (omega (arith, w.if-i-gt0.false))
    ] in
    subst (λ (ops : List Op). nat_eq (i + 1) (length ops) ≡ is_clear_in h (stamp_of (op_at (in_order h) i))) (sym c.requires.listed)
    (clear-end h i c.requires.within first (subst (λ (ops : List Op). i + 1 ≡ length ops) c.requires.listed c.if-i-ops.true))

pub returns-else-i-ops : goal.returns-else-i-ops
returns-else-i-ops g c =
    let h = c.args.held.now.ops in
    let i = c.args.i in
    let here = c.stamp-stamp.ensures ∙ stamp-read h c.args.ops.now i _ c.requires.listed c.requires.within in
    let first : (i ≡ 0) ⊎ (same (stamp_of (op_at (in_order h) (i - 1))) (stamp_of (op_at (in_order h) i)) ≡ false) = elim c.else-i-gt0.branch [
      | else-i-gt0-via-then-i-gt0+else-is_same w ↦
          let before_it = w.stamp.ensures ∙ stamp-read h c.args.ops.now (i - 1) _ c.requires.listed (omega (arith, c.requires.within)) in
          inr (ap (λ (t : Stamp). same t (stamp_of (op_at (in_order h) i))) (sym before_it) ∙ ap (same w.stamp.result) (sym here) ∙ sym w.is_same.ensures ∙ w.if-is_same.false)
      | else-i-gt0-via-else-i-gt0 w ↦ inl (omega (arith, w.if-i-gt0.false))
    ] in
    let not_last : i + 1 ≡ length (in_order h) → ⊥ = subst (λ (ops : List Op). i + 1 ≡ length ops → ⊥) c.requires.listed c.if-i-ops.false in
    let lt : i + 1 < length (in_order h) = omega (arith, c.requires.within, not_last) in
    let next = c.stamp-else-i-ops.ensures ∙ stamp-read h c.args.ops.now (i + 1) _ c.requires.listed lt in
    clear-last h i lt first c.is_same-else-i-ops.result (c.is_same-else-i-ops.ensures ∙ ap (λ (t : Stamp). same t c.stamp-stamp.result) next ∙ ap (same (stamp_of (op_at (in_order h) (i + 1)))) here)
