use Rattle.std.proofs.Common.{◌∙◌, ap, refl, length}
use Rattle.desk_ops.specs.OpSet.{has_op}
use Rattle.desk_ops.specs.OrderLaws.{op_tie}
use Rattle.list_pages.specs.Pages.{IsEdge}
use Rattle.desk_walk.specs.Waiting.{Waiting}
use Rattle.desk_walk.proofs.Releases.{earlier, has-at, has-none}
use Rattle.desk_walk.proofs.room.Room.has.Goals as goal

pub returns-in-Some : goal.returns-in-Some
returns-in-Some g c =
    let xs = c.self.inside.ops.entries in
    let op = c.args.op.now in
    let f = c.in-Some.ensures.found in
    let edge : IsEdge (earlier op) xs f.0 = f.1 in
    c.eq.ensures ∙ op_tie c.in-Some.first op ∙ has-at xs op c.in-Some.first f.0 c.self.invariant.in_turn edge f.2 f.3 ∙ ap (λ (w : Waiting). has_op w.ops op) c.self.view_is

pub returns-in-None : goal.returns-in-None
returns-in-None g c =
    let xs = c.self.inside.ops.entries in
    let op = c.args.op.now in
    let edge : IsEdge (earlier op) xs (length xs) = c.in-None.ensures.none refl in
    has-none xs op c.self.invariant.in_turn edge ∙ ap (λ (w : Waiting). has_op w.ops op) c.self.view_is
