use Rattle.std.proofs.Common.{◌≡◌, ◌≤◌, ◌∙◌, List, ap, subst, sym}
use Rattle.desk_ops.specs.declared.op.Op.{Op}
use Rattle.desk_ops.specs.OpSet.{OpSet, in_order, max_ops, no_ops, size, with_all}
use Rattle.desk_ops.proofs.Unions.{with_all-in_order}
use Rattle.desk_held.specs.Joining.{IsStopped}
use Rattle.desk_replica.proofs.Sets.{too_many}
use Rattle.feed_readings.specs.Before.{IsBefore}
use Rattle.feed_readings.specs.Lines.{reported_of}
use Rattle.feed_sites.proofs.Readable.{known_lines, many_lines, new_lines}
use Rattle.feed_sites.proofs.reported.readings_lines.Goals as goal

pub returns-then-len-held : goal.returns-then-len-held
returns-then-len-held g c =
    let first = c.args.first.ops in
    let second = c.args.second.now.ops in
    let joined = c.in-Ok.ensures.ok ∙ ap (with_all first) (c.deref-2.ensures.value ∙ c.in_ok-ops.ensures.items) in
    c.new.ensures.items ∙ sym (known_lines first second (sym (ap size joined) ∙ sym c.len.ensures.value ∙ c.if-len-held.true ∙ c.len-held.ensures.value))

pub report_after-requires-clause-joined : goal.report_after-requires-clause-joined
report_after-requires-clause-joined g c =
    let first = c.args.first.ops in
    (first, (subst (λ (l : List Op). IsBefore first l c.in_ok-before.before) c.deref.ensures.value c.in_ok-before.ensures, c.in-Ok.ensures.ok ∙ ap (with_all first) c.deref-2.ensures.value))

pub returns-in-Ok : goal.returns-in-Ok
returns-in-Ok g c =
    let first = c.args.first.ops in
    let second = c.args.second.now.ops in
    let joined = c.in-Ok.ensures.ok ∙ ap (with_all first) (c.deref-2.ensures.value ∙ c.in_ok-ops.ensures.items) in
    let kept = subst (λ (l : List Op). IsBefore first l c.in_ok-before.before) c.deref.ensures.value c.in_ok-before.ensures in
    c.in_ok-lines-in-Ok.ensures.lines first (kept, c.in-Ok.ensures.ok ∙ ap (with_all first) c.deref-2.ensures.value)
    ∙ ap (reported_of first) (ap (with_all no_ops) c.in_ok-ops.ensures.items ∙ with_all-in_order second)
    ∙ sym (new_lines first second (λ e. c.if-len-held.false (c.len.ensures.value ∙ ap size joined ∙ e ∙ sym c.len-held.ensures.value)) (subst (λ (s : OpSet). size s ≤ max_ops) joined c.in-Ok.ensures.within))

pub returns : goal.returns
returns g c =
    let first = c.args.first.ops in
    let second = c.args.second.now.ops in
    let stopped = subst (λ (l : List Op). IsStopped first c.take_all.new.self.ops l c.in-Err.stopped) (c.deref-2.ensures.value ∙ c.in_ok-ops.ensures.items) c.in-Err.ensures.stopped in
    c.new-in-Full.ensures.items ∙ sym (many_lines first second (too_many first c.take_all.new.self.ops (in_order second) c.in-Err.stopped stopped c.in-Full.is))
