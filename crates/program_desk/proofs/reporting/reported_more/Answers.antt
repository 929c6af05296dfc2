use Rattle.std.proofs.Common.{inl, inr, refl}
use Rattle.program_desk.proofs.reporting.reported_more.Goals as goal

pub returns-then-is_over : goal.returns-then-is_over
returns-then-is_over g c = inr (c.is_over.ensures c.if-is_over.true, (refl, refl))

pub returns : goal.returns
returns g c = inl c.tell_cause.ensures
