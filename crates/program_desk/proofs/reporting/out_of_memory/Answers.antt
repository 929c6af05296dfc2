use Rattle.std.proofs.Common.{refl, subst, sym, []}
use Rattle.program_desk.specs.Told.{Tells}
use Rattle.program_desk.proofs.Explaining.{nothing}
use Rattle.program_desk.proofs.reporting.out_of_memory.Goals as goal

pub returns : goal.returns
returns g c = (refl, c.tell_head-told.ensures (g.E.Write.contents c.args.faults.now) [] (subst (λ b. Tells b (g.E.Write.contents c.args.faults.now) (g.E.Write.contents c.args.faults.now) []) (sym c.silent.ensures) (nothing (g.E.Write.contents c.args.faults.now))))
