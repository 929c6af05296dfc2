use Rattle.std.proofs.Common.{inl, inr, refl}
use Rattle.program_desk.proofs.Statuses.{stop_of}
use Rattle.program_desk.proofs.previews.punched.Goals as goal

pub returns-clause-stopped : goal.returns-clause-stopped
returns-clause-stopped g c one = inr (stop_of c.punch_feeds-outcome.result _ _ c.punch_ending.result.status c.punch_ending.ensures c.punch_feeds-outcome.ensures.err one)

pub returns-then-makes_ribbon-clause-stopped : goal.returns-then-makes_ribbon-clause-stopped
returns-then-makes_ribbon-clause-stopped g c one = inl (c.makes_ribbon.ensures.0 c.if-makes_ribbon.true, refl, refl, c.stopped.ensures.1)
