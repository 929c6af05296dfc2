use Rattle.std.proofs.Common.{◌≡◌, ◌∙◌, sym, ap, subst, refl, true, false, length, []}
use Rattle.std.specs.Prelude.{IfSome}
use Rattle.desk_ops.specs.declared.op.Stamp.{Stamp}
use Rattle.desk_ops.specs.declared.op.Op.{Op}
use Rattle.desk_ops.specs.Stamp.{same}
use Rattle.desk_ops.specs.OpSet.{has_op}
use Rattle.desk_ops.proofs.Stamps.{same-true}
use Rattle.list_pages.specs.Pages.{IsEdge}
use Rattle.desk_walk.specs.Waiting.{Waiting, waits_for, waiting_at, IsReleased}
use Rattle.desk_walk.specs.Turn.{target_or_head, set_of}
use Rattle.desk_walk.proofs.Sets.{no_list}
use Rattle.desk_walk.proofs.Releases.{above, none-waits, other-waits, kept-after, released}
use Rattle.desk_walk.proofs.room.Room.release.Goals as goal

pub returns-in_default-clause-stays : goal.returns-in_default-clause-stays
returns-in_default-clause-stays g c = λ _.
    let xs = c.self.inside.ops.entries in
    let s = c.args.target in
    let edge : IsEdge (above s) xs (length xs) = c.in_default.ensures.none refl in
    subst (λ (w : Waiting). (op : Op) → has_op w.ops op ≡ true → waits_for s op ≡ false) c.self.view_is (none-waits s xs c.self.invariant.in_turn edge)

pub returns-in_default-clause-none : goal.returns-in_default-clause-none
returns-in_default-clause-none g c = λ _.
    let xs = c.self.inside.ops.entries in
    let s = c.args.target in
    let edge : IsEdge (above s) xs (length xs) = c.in_default.ensures.none refl in
    (subst (λ (w : Waiting). waiting_at w.ops s ≡ []) c.self.view_is (no_list s (set_of xs) (none-waits s xs c.self.invariant.in_turn edge)), refl)

pub returns-then-not-is_same-clause-stays : goal.returns-then-not-is_same-clause-stays
returns-then-not-is_same-clause-stays g c = λ _.
    let xs = c.self.inside.ops.entries in
    let s = c.args.target in
    let f = c.in-Some.ensures.found in
    let edge : IsEdge (above s) xs f.0 = f.1 in
    let apart : same (target_or_head c.in-Some.first) s ≡ false = ap (λ (t : Stamp). same t s) (sym c.target_of.ensures) ∙ sym c.is_same.ensures ∙ c.if-not-is_same.true in
    subst (λ (w : Waiting). (op : Op) → has_op w.ops op ≡ true → waits_for s op ≡ false) c.self.view_is (other-waits s xs f.0 c.in-Some.first c.self.invariant.in_turn edge f.2 f.3 apart)

pub returns-then-not-is_same-clause-none : goal.returns-then-not-is_same-clause-none
returns-then-not-is_same-clause-none g c = λ _.
    let xs = c.self.inside.ops.entries in
    let s = c.args.target in
    let f = c.in-Some.ensures.found in
    let edge : IsEdge (above s) xs f.0 = f.1 in
    let apart : same (target_or_head c.in-Some.first) s ≡ false = ap (λ (t : Stamp). same t s) (sym c.target_of.ensures) ∙ sym c.is_same.ensures ∙ c.if-not-is_same.true in
    (subst (λ (w : Waiting). waiting_at w.ops s ≡ []) c.self.view_is (no_list s (set_of xs) (other-waits s xs f.0 c.in-Some.first c.self.invariant.in_turn edge f.2 f.3 apart)), refl)

pub invariant_of-self : goal.invariant_of-self
invariant_of-self g c = kept-after (above c.args.target) c.remove_in_order.result c.self.inside.ops.entries c.remove_in_order.new.ops.entries c.self.invariant c.remove_in_order.ensures.some c.remove_in_order.ensures.none

pub returns-clause-some : goal.returns-clause-some
returns-clause-some g c =
    let xs = c.self.inside.ops.entries in
    let ys = c.remove_in_order.new.ops.entries in
    let s = c.args.target in
    let f = c.in-Some.ensures.found in
    let edge : IsEdge (above s) xs f.0 = f.1 in
    let there : target_or_head c.in-Some.first ≡ s = same-true (target_or_head c.in-Some.first) s (ap (λ (t : Stamp). same t s) (sym c.target_of.ensures) ∙ sym c.is_same.ensures ∙ c.if-not-is_same.false) in
    subst (λ (w : Waiting). IfSome c.remove_in_order.result (λ op. IsReleased w.ops (set_of ys) s op)) c.self.view_is
    (released s c.remove_in_order.result xs ys f.0 c.in-Some.first c.self.invariant edge f.2 f.3 there c.remove_in_order.ensures.some)

pub returns-clause-none : goal.returns-clause-none
returns-clause-none g c = λ n.
    let xs = c.self.inside.ops.entries in
    let s = c.args.target in
    let q = c.remove_in_order.ensures.none n in
    let edge : IsEdge (above s) xs (length xs) = q.0 in
    (subst (λ (w : Waiting). waiting_at w.ops s ≡ []) c.self.view_is (no_list s (set_of xs) (none-waits s xs c.self.invariant.in_turn edge)), ap set_of q.1 ∙ ap (λ (w : Waiting). w.ops) c.self.view_is)

pub returns-clause-stays : goal.returns-clause-stays
returns-clause-stays g c = λ n.
    let xs = c.self.inside.ops.entries in
    let s = c.args.target in
    let q = c.remove_in_order.ensures.none n in
    let edge : IsEdge (above s) xs (length xs) = q.0 in
    subst (λ (w : Waiting). (op : Op) → has_op w.ops op ≡ true → waits_for s op ≡ false) c.self.view_is (none-waits s xs c.self.invariant.in_turn edge)
