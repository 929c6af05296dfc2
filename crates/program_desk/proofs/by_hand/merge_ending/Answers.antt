use Rattle.std.proofs.Common.{◌≡◌, subst, refl, true}
use Rattle.program_desk.specs.ByHand.{TellsMerge, status_of}
use Rattle.program_desk.specs.Explained.{IsSilent, TellsOf}
use Rattle.program_desk.proofs.Statuses.{said_in}
use Rattle.program_desk.proofs.by_hand.merge_ending.Goals as goal

pub returns-in-Err : goal.returns-in-Err
returns-in-Err g c =
    let first = subst (λ cause. TellsOf true cause c.stopped-first.result.told.is_whole (g.E.Write.contents c.args.faults.now) (g.E.Write.contents c.stopped-first.new.faults)) c.merge_cause-cause.ensures c.stopped-first.ensures.1 in
    let more = c.explain_forks-told.ensures in
    said_in (λ clean. (1 ≡ status_of c.args.merge.review clean) × IsSilent c.explain_forks-told.result.is_whole (g.E.Write.contents c.args.faults.now) (g.E.Write.contents c.explain_forks-told.new.faults))
    (λ fault. (1 ≡ 1) × TellsMerge c.args.merge.feed c.args.merge.others.now fault c.explain_forks-told.result.is_whole (g.E.Write.contents c.args.faults.now) (g.E.Write.contents c.explain_forks-told.new.faults)) c.args.outcome c.in-Err.fault c.in-Err.is
    (refl, (first.0, more.0, first.1, more.1, more.2 (g.E.Write.contents c.args.faults.now) first.0 first.2))
