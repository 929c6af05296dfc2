use Rattle.std.proofs.Common.{◌∙◌, List, ap, subst}
use Rattle.desk_ops.specs.declared.op.Op.{Op}
use Rattle.desk_ops.specs.OpSet.{with_all}
use Rattle.feed_readings.specs.Before.{IsBefore}
use Rattle.test_copy.proofs.text.readings.joined.Goals as goal

pub report_after-requires-clause-joined : goal.report_after-requires-clause-joined
report_after-requires-clause-joined c =
    let set = c.merge.new.self.ops in
    let kept = subst (λ (l : List Op). IsBefore set l c.in_ok-before.before) c.deref.ensures.value c.in_ok-before.ensures in
    (set, (kept, c.in_ok-take_all.ensures.ok ∙ ap (with_all set) c.deref-2.ensures.value))
