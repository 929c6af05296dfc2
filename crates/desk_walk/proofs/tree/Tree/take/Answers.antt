use Rattle.std.proofs.Common.{◌+◌, ◌∙◌, ap, sym, subst, List}
use Rattle.std.proofs.lemmas.Result.{on_ok_weaker}
use Rattle.desk_ops.specs.Op.{target_of}
use Rattle.desk_ops.specs.OpSet.{in_order}
use Rattle.desk_walk.specs.declared.tree.Node.{Node}
use Rattle.desk_walk.specs.Tree.{op_at, IsLinking}
use Rattle.desk_walk.proofs.Beside.{op-read}
use Rattle.desk_walk.proofs.Linking.{step-other, other-none, other-forked}
use Rattle.desk_walk.proofs.tree.Tree.take.Goals as goal

pub returns-in_default : goal.returns-in_default
returns-in_default g c =
    let h = c.args.held.now.ops in
    let t = c.args.self.now in
    on_ok_weaker c.pass.result
    (λ e. subst (λ (ns : List Node). IsLinking h (c.args.i + 1) ns t.count t.waiting.items) (sym e)
    (step-other h c.args.i c.requires.within t.nodes.items t.count t.waiting.items c.requires.linking
    (other-none h (op_at (in_order h) c.args.i) (ap target_of (sym (op-read h c.args.ops.now c.args.i _ c.requires.listed c.requires.within)) ∙ sym c.target.ensures ∙ c.in_default.is))))
    c.pass.ensures

pub hang-requires-clause-target : goal.hang-requires-clause-target
hang-requires-clause-target g c =
    let h = c.args.held.now.ops in
    ap target_of (sym (op-read h c.args.ops.now c.args.i _ c.requires.listed c.requires.within)) ∙ sym c.target.ensures ∙ c.in-Some.is

pub returns : goal.returns
returns g c =
    let h = c.args.held.now.ops in
    let t = c.args.self.now in
    on_ok_weaker c.pass-2.result
    (λ e. subst (λ (ns : List Node). IsLinking h (c.args.i + 1) ns t.count t.waiting.items) (sym e)
    (step-other h c.args.i c.requires.within t.nodes.items t.count t.waiting.items c.requires.linking
    (other-forked h (op_at (in_order h) c.args.i) (sym c.is_clear_at.ensures ∙ c.if-is_clear_at.false))))
    c.pass-2.ensures
