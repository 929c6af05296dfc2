use Rattle.std.proofs.Common.{◌∙◌, [], inl, inr, refl}
use Rattle.program_desk.proofs.Telling.{stays}
use Rattle.program_desk.proofs.by_hand.tell_forks.Goals as goal

pub returns-in-Ok : goal.returns-in-Ok
returns-in-Ok g c = (c.as_bytes.result.now, inr (c.as_bytes.ensures.value ∙ c.in-Ok.ensures), c.tell_more.ensures)

pub returns-in-Err : goal.returns-in-Err
returns-in-Err g c = ([], inl refl, stays c.args.told.is_whole (g.E.Write.contents c.args.faults.now))
