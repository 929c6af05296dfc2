use Rattle.std.proofs.Common.{◌≡◌, ◌+◌, ◌++◌, ◌∷◌, [], ◌∙◌, ◌⊎◌, ap, sym, subst, subst₂, arith, List, refl}
use Rattle.std.proofs.lemmas.Result.{on_ok_weaker}
use Rattle.std.specs.Option.{is_some}
use Rattle.desk_ops.specs.declared.op.Op.{Op}
use Rattle.desk_ops.specs.declared.op.Stamp.{Stamp}
use Rattle.desk_ops.specs.Stamp.{head}
use Rattle.desk_ops.specs.Lists.{Among}
use Rattle.desk_seq.specs.Entries.{stamps_of}
use Rattle.desk_ops.specs.Op.{target_of}
use Rattle.desk_ops.specs.OpSet.{in_order}
use Rattle.desk_ops.proofs.OpSets.{length-in_order}
use Rattle.desk_walk.specs.declared.tree.Node.{Node}
use Rattle.desk_walk.specs.Tree.{op_at, walked, IsLinking}
use Rattle.desk_walk.proofs.Beside.{op-read}
use Rattle.desk_walk.proofs.Trees.{there-node}
use Rattle.desk_walk.proofs.Linking.{step-waits, acts}
use Rattle.desk_walk.proofs.Walking.{hangs-from, on-ok_both, of_target}
use Rattle.desk_walk.proofs.tree.Tree.hang.Goals as goal

pub act-requires-clause-few : goal.act-requires-clause-few
act-requires-clause-few g c = omega (arith, c.requires.linking.long, c.requires.within, c.requires.linking.small, length-in_order c.args.held.now.ops)

pub act-requires-clause-count : goal.act-requires-clause-count
act-requires-clause-count g c = omega (arith, c.requires.linking.counted, c.requires.within, c.requires.linking.small, length-in_order c.args.held.now.ops)

pub returns-in-Some : goal.returns-in-Some
returns-in-Some g c =
    let h = c.args.held.now.ops in
    let t = c.args.self.now in
    on-ok_both c.act.result
    (λ a w. subst (λ (os : List Op). IsLinking h (c.args.i + 1) c.act.new.self.nodes.items c.act.new.self.count os) (sym w)
    (acts h c.args.i c.requires.within t.nodes.items t.count t.waiting.items c.requires.linking
    (hangs-from h (op_at (in_order h) c.args.i) c.requires.clear (ap is_some c.requires.target))
    _ (sym (op-read h c.args.ops.now c.args.i _ c.requires.listed c.requires.within)) c.args.target
    (ap target_of (op-read h c.args.ops.now c.args.i _ c.requires.listed c.requires.within) ∙ c.requires.target)
    c.in-Some.place c.in-Some.ensures.found c.act.new.self.nodes.items c.act.new.self.count a))
    c.act.ensures.acts c.act.ensures.waiting

pub returns : goal.returns
returns g c =
    let h = c.args.held.now.ops in
    let t = c.args.self.now in
    on_ok_weaker c.pass.result
    (λ e. subst₂ (λ (ns : List Node) (os : List Op). IsLinking h (c.args.i + 1) ns t.count os) (sym e)
    (sym (c.in_ok-push.ensures.items ∙ ap (λ (o : Op). t.waiting.items ++ o ∷ []) (op-read h c.args.ops.now c.args.i _ c.requires.listed c.requires.within)))
    (step-waits h c.args.i c.requires.within t.nodes.items t.count t.waiting.items c.requires.linking
    (hangs-from h (op_at (in_order h) c.args.i) c.requires.clear (ap is_some c.requires.target))
    (λ s f n. let r = there-node h t.nodes.items t.count c.requires.linking.tree c.args.target (of_target (λ (u : Stamp). (u ≡ head) ⊎ Among u (stamps_of (walked h t.nodes.items t.count))) s c.args.target (sym f ∙ c.requires.target) n) in c.in_default.ensures.none refl r.0 r.1)))
    c.pass.ensures
