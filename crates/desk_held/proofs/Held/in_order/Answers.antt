use Rattle.std.proofs.Common.{◌∙◌, sym}
use Rattle.desk_ops.specs.OpSet.{in_order}
use Rattle.desk_ops.proofs.OpSets.{length-in_order}
use Rattle.desk_held.proofs.Ranges.{copied-all}
use Rattle.desk_held.proofs.Held.in_order.Goals as goal

pub returns-clause-items : goal.returns-clause-items
returns-clause-items g c = copied-all c.range.result (λ v. v.items) (in_order c.args.self.now.ops) c.len.result (c.len.ensures.value ∙ sym (length-in_order c.args.self.now.ops)) c.range.ensures.items
