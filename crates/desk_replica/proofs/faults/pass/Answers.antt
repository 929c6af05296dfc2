use Rattle.std.proofs.Common.{◌∙◌, ◌++◌, [], ◌∷◌, Some, sym, ap, subst}
use Rattle.std.proofs.Common.{ℕ, ◌+◌, ◌<◌, ◌≡◌, List, length, drop, take, true, false}
use Rattle.desk_replica.proofs.Ends.{before_in, step_clear, step_known, step_forked}
use Rattle.desk_replica.proofs.faults.pass.Goals as goal

pub returns-then-is_repeated : goal.returns-then-is_repeated
returns-then-is_repeated g c =
    step_known c.args.ops.now c.requires.order c.args.place _ c.requires.within c.args.hanging.now.items c.args.faults.now.items c.requires.reported
    c.note.result c.stamp-stamp.result c.note.new.hanging.items c.stamp-stamp.ensures (sym c.is_repeated.ensures ∙ c.if-is_repeated.true) c.note.ensures

pub returns-then-is_followed : goal.returns-then-is_followed
returns-then-is_followed g c =
    step_forked c.args.ops.now c.requires.order c.args.place _ c.requires.within c.args.hanging.now.items c.args.faults.now.items c.requires.reported
    c.note-then-is_followed.result c.stamp-stamp.result c.note-then-is_followed.new.hanging.items c.report.new.faults.items c.stamp-stamp.ensures (sym c.is_repeated.ensures ∙ c.if-is_repeated.false)
    (sym c.is_followed.ensures ∙ c.if-is_followed.true) c.in_ok-report.ensures c.note-then-is_followed.ensures

pub fault_of-kind-requires-clause-older : goal.fault_of-kind-requires-clause-older
fault_of-kind-requires-clause-older g c =
    before_in c.args.ops.now c.requires.order c.args.place _ c.requires.within c.args.hanging.now.items c.args.faults.now.items c.requires.reported c.deref.result.now c.deref.ensures.value

pub returns : goal.returns
returns g c =
    step_clear c.args.ops.now c.requires.order c.args.place _ c.requires.within c.args.hanging.now.items c.args.faults.now.items c.requires.reported
    c.note-2.result c.stamp-stamp.result c.fault_of-kind.result c.hanging_on.result c.note-2.new.hanging.items c.report-2.new.faults.items c.stamp-stamp.ensures (sym c.is_repeated.ensures ∙ c.if-is_repeated.false)
    (sym c.is_followed.ensures ∙ c.if-is_followed.false) c.fault_of-kind.ensures c.hanging_on.ensures c.in_ok-report-2.ensures c.note-2.ensures
