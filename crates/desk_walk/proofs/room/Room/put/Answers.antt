use Rattle.std.proofs.Common.{◌≡◌, ◌∙◌, sym, ap, subst, true, false, take, drop}
use Rattle.std.specs.List.{insert, AllByRecursion}
use Rattle.std.specs.Ordering.{is_lt, eq_by_cmp}
use Rattle.std.specs.declared.cmp.Ordering.TheVariants.{Less}
use Rattle.desk_ops.specs.declared.op.Op.{Op}
use Rattle.desk_ops.specs.Op.{IsLawful}
use Rattle.desk_ops.specs.Order.{op_cmp}
use Rattle.desk_ops.specs.OpSet.{has_op, with_op}
use Rattle.desk_ops.proofs.Stamps.{is_less}
use Rattle.desk_ops.proofs.Lists.{Each-weaker, Each-insert}
use Rattle.list_pages.specs.Pages.{IsEdge}
use Rattle.desk_walk.specs.Waiting.{Waiting, HasTarget}
use Rattle.desk_walk.specs.Turn.{turn_cmp, IsKept, set_of}
use Rattle.desk_walk.proofs.Turns.{edge-below, edge-above, earlier-down, above-all, turn-insert}
use Rattle.desk_walk.proofs.Sets.{set-insert, absent-set}
use Rattle.desk_walk.proofs.room.Room.put.Goals as goal

pub invariant_of-self : goal.invariant_of-self
invariant_of-self g c =
    let xs = c.self.inside.ops.entries in
    let op = c.args.op in
    let put = c.insert_in_order.ensures.put in
    let edge : IsEdge (λ (x : Op). is_lt (turn_cmp x op)) xs put.0 = put.1 in
    let kept = c.self.invariant in
    let absent : AllByRecursion (λ (y : Op). eq_by_cmp op_cmp op y ≡ false) xs = absent-set xs op (subst (λ (w : Waiting). has_op w.ops op ≡ false) (sym c.self.view_is) c.requires.absent) in
    let below : AllByRecursion (λ (y : Op). is_lt (turn_cmp y op) ≡ true) (take put.0 xs) = edge-below (λ (x : Op). is_lt (turn_cmp x op)) (earlier-down op) xs put.0 kept.in_turn edge.within edge.below in
    let above : AllByRecursion (λ (y : Op). turn_cmp op y ≡ Less) (drop put.0 xs) = above-all op xs put.0 (edge-above (λ (x : Op). is_lt (turn_cmp x op)) (earlier-down op) xs put.0 kept.in_turn edge.stops) absent in
    let less : AllByRecursion (λ (y : Op). turn_cmp y op ≡ Less) (take put.0 xs) = Each-weaker (λ (y : Op). is_lt (turn_cmp y op) ≡ true) (λ (y : Op). turn_cmp y op ≡ Less) (λ y h. is_less (turn_cmp y op) h) (take put.0 xs) below in
    let is : IsKept (insert xs put.0 op) = record { in_turn = turn-insert xs put.0 op kept.in_turn less above; lawful = Each-insert IsLawful xs put.0 op kept.lawful c.requires.lawful; targets = Each-insert HasTarget xs put.0 op kept.targets c.requires.target } in
    subst IsKept (sym put.2) is

pub returns-clause-put : goal.returns-clause-put
returns-clause-put g c =
    let xs = c.self.inside.ops.entries in
    let put = c.insert_in_order.ensures.put in
    ap set_of put.2 ∙ set-insert xs put.0 c.args.op ∙ ap (λ (w : Waiting). with_op w.ops c.args.op) c.self.view_is
