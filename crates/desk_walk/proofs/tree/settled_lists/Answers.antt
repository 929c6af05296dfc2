use Rattle.std.proofs.Common.{◌≡◌, ap, sym, subst, arith, length, List}
use Rattle.desk_ops.specs.OpSet.{in_order, size}
use Rattle.desk_ops.proofs.OpSets.{length-in_order}
use Rattle.desk_seq.specs.declared.Entry.{Entry}
use Rattle.desk_walk.specs.Tree.{IsLinking, AreSettled}
use Rattle.desk_walk.proofs.Walking.{linking-all}
use Rattle.desk_walk.proofs.tree.settled_lists.Goals as goal

pub take-requires-clause-within : goal.take-requires-clause-within
take-requires-clause-within g c = omega (arith, c.loop-i-test.true, ap length c.requires)

pub entries-requires-clause-linking : goal.entries-requires-clause-linking
entries-requires-clause-linking g c =
    let e : c.loop-i.i ≡ size c.args.held.now.ops = omega (arith, c.loop-i-test.false, c.loop-i.auto.i-end, ap length c.requires, length-in_order c.args.held.now.ops) in
    subst (λ n. IsLinking c.args.held.now.ops n c.loop-i.tree.nodes.items c.loop-i.tree.count c.loop-i.tree.waiting.items) e c.loop-i.invariant

pub returns : goal.returns
returns g c =
    let e : c.loop-i.i ≡ length (in_order c.args.held.now.ops) = omega (arith, c.loop-i-test.false, c.loop-i.auto.i-end, ap length c.requires) in
    subst (λ (es : List Entry). AreSettled c.args.held.now.ops es c.loop-i.tree.waiting.items) (sym c.in_ok-entries.ensures)
    (linking-all c.args.held.now.ops c.loop-i.i e c.loop-i.tree.nodes.items c.loop-i.tree.count c.loop-i.tree.waiting.items c.loop-i.invariant)
