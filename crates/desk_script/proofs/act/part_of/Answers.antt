use Rattle.std.proofs.Common.{◌∙◌, inl, length, refl, sym, ap}
use Rattle.std.specs.Prelude.{Some}
use Rattle.desk_ops.specs.OpSet.{in_order}
use Rattle.desk_held.proofs.Ranges.{length-in_order}
use Rattle.desk_script.specs.Act.{sent}
use Rattle.desk_script.proofs.Parts.{there, turned, beyond}
use Rattle.desk_script.proofs.act.part_of.Goals as goal
use Rattle.desk_script.proofs.act.part_of.Goals.{else-from-to-via-then-from-to+else-to-len, else-from-to-via-else-from-to}

pub returns-in_ok-range-clause-part : goal.returns-in_ok-range-clause-part
returns-in_ok-range-clause-part g c =
    let ops = in_order c.args.replica.now.ops in
    ap Some c.in_ok-range.ensures.items ∙ sym (ap (sent ops) c.in-Some.is ∙ there ops c.in-Some.from c.in-Some.to c.len.result (c.len.ensures.value ∙ sym (length-in_order c.args.replica.now.ops)) c.if-from-to.true c.if-to-len.true)

pub returns-else-from-to-clause-refused : goal.returns-else-from-to-clause-refused
returns-else-from-to-clause-refused g c = inl (
  refl,
  elim c.else-from-to.branch [
    | else-from-to-via-then-from-to+else-to-len w ↦ ap (sent (in_order c.args.replica.now.ops)) c.in-Some.is ∙ beyond (in_order c.args.replica.now.ops) c.in-Some.from c.in-Some.to w.len.result (w.len.ensures.value ∙ sym (length-in_order c.args.replica.now.ops)) w.if-from-to.true w.if-to-len.false
    | else-from-to-via-else-from-to w ↦ ap (sent (in_order c.args.replica.now.ops)) c.in-Some.is ∙ turned (in_order c.args.replica.now.ops) c.in-Some.from c.in-Some.to (length (in_order c.args.replica.now.ops)) refl w.if-from-to.false
  ],
)
