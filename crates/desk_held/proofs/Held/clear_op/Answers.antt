use Rattle.std.proofs.Common.{◌≡◌, ◌+◌, ◌<◌, ◌∙◌, ap, sym, refl, subst, get_or, length}
use Rattle.desk_ops.specs.Stamp.{same}
use Rattle.desk_ops.specs.Held.{bearing, sole, clear_op_in}
use Rattle.desk_ops.proofs.OpSets.{in_order-from_rising}
use Rattle.desk_held.specs.Holding.{Holding}
use Rattle.desk_held.proofs.Edges.{none-clear, other-clear, two-clear, last-clear, one-clear, next-to}
use Rattle.desk_held.proofs.Held.clear_op.Goals as goal

pub returns-in_default : goal.returns-in_default
returns-in_default g c =
    let ops = c.self.inside.ops.entries in
    let s = c.args.stamp in
    none-clear s ops c.self.invariant.rising _ (c.in_default.ensures.none refl) refl
    ∙ ap (λ os. sole (bearing os s)) (sym (in_order-from_rising ops c.self.invariant.rising))
    ∙ ap (λ (h : Holding). clear_op_in h.ops s) c.self.view_is

pub returns-then-not-is_same : goal.returns-then-not-is_same
returns-then-not-is_same g c =
    let ops = c.self.inside.ops.entries in
    let s = c.args.stamp in
    let f = c.in-Some.ensures.found in
    other-clear s ops c.self.invariant.rising f.0 f.1 c.in-Some.first f.2 f.3 (ap (λ t. same t s) (sym c.stamp.ensures) ∙ sym c.is_same.ensures ∙ c.if-not-is_same.true)
    ∙ ap (λ os. sole (bearing os s)) (sym (in_order-from_rising ops c.self.invariant.rising))
    ∙ ap (λ (h : Holding). clear_op_in h.ops s) c.self.view_is

pub returns-in_default-seek : goal.returns-in_default-seek
returns-in_default-seek g c =
    let ops = c.self.inside.ops.entries in
    let s = c.args.stamp in
    let f = c.in-Some.ensures.found in
    last-clear s ops c.self.invariant.rising f.0 f.1 c.in-Some.first f.2 f.3
    (ap (λ t. same t s) (sym c.stamp.ensures) ∙ sym c.is_same.ensures ∙ c.if-not-is_same.false)
    (sym (next-to ops f.0 (length ops) c.in-Some.first c.self.invariant.rising f.2 f.3 (c.in_default-seek.ensures.none refl)))
    ∙ ap (λ os. sole (bearing os s)) (sym (in_order-from_rising ops c.self.invariant.rising))
    ∙ ap (λ (h : Holding). clear_op_in h.ops s) c.self.view_is

pub returns-then-is_same : goal.returns-then-is_same
returns-then-is_same g c =
    let ops = c.self.inside.ops.entries in
    let s = c.args.stamp in
    let f = c.in-Some.ensures.found in
    let n = c.in-Some-seek.ensures.found in
    let next : n.0 ≡ f.0 + 1 = next-to ops f.0 n.0 c.in-Some.first c.self.invariant.rising f.2 f.3 n.1 in
    two-clear s ops c.self.invariant.rising f.0 f.1 c.in-Some.first c.in-Some-seek.next f.2 f.3
    (ap (λ t. same t s) (sym c.stamp.ensures) ∙ sym c.is_same.ensures ∙ c.if-not-is_same.false)
    (subst (λ k. k < length ops) next n.2) (n.3 ∙ ap (λ k. get_or ops k c.in-Some-seek.next) next)
    (ap (λ t. same t s) (sym c.stamp-2.ensures) ∙ sym c.is_same-2.ensures ∙ c.if-is_same.true)
    ∙ ap (λ os. sole (bearing os s)) (sym (in_order-from_rising ops c.self.invariant.rising))
    ∙ ap (λ (h : Holding). clear_op_in h.ops s) c.self.view_is

pub returns : goal.returns
returns g c =
    let ops = c.self.inside.ops.entries in
    let s = c.args.stamp in
    let f = c.in-Some.ensures.found in
    let n = c.in-Some-seek.ensures.found in
    let next : n.0 ≡ f.0 + 1 = next-to ops f.0 n.0 c.in-Some.first c.self.invariant.rising f.2 f.3 n.1 in
    one-clear s ops c.self.invariant.rising f.0 f.1 c.in-Some.first c.in-Some-seek.next f.2 f.3
    (ap (λ t. same t s) (sym c.stamp.ensures) ∙ sym c.is_same.ensures ∙ c.if-not-is_same.false)
    (subst (λ k. k < length ops) next n.2) (n.3 ∙ ap (λ k. get_or ops k c.in-Some-seek.next) next)
    (ap (λ t. same t s) (sym c.stamp-2.ensures) ∙ sym c.is_same-2.ensures ∙ c.if-is_same.false)
    ∙ ap (λ os. sole (bearing os s)) (sym (in_order-from_rising ops c.self.invariant.rising))
    ∙ ap (λ (h : Holding). clear_op_in h.ops s) c.self.view_is
