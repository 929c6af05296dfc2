use Rattle.std.proofs.Common.{◌∙◌, inl, inr, subst, arith, rules}
use Rattle.program_desk.specs.Explained.{Reports}
use Rattle.program_desk.specs.Readings.{AreHolesAbsent, IsNotReadOut, IsReadOut}
use Rattle.program_desk.proofs.Previewing.{by_status}
use Rattle.program_desk.proofs.readings.read_whole.Goals as goal

pub returns-then-whole-clause-done : goal.returns-then-whole-clause-done
returns-then-whole-clause-done g c zero = ((g.F.Files.shelf c.read_out.new.files), subst (λ yes. IsReadOut c.args.asked.now (g.F.Files.shelf c.args.files.now) (g.F.Files.shelf c.read_out.new.files) (g.W.Write.contents c.args.writer.now) (g.W.Write.contents c.read_out.new.writer) yes) c.if-whole.true c.in-Ok.ensures.ok, (c.drawn-ending.ensures.there zero).0)

pub returns-then-whole-clause-stopped : goal.returns-then-whole-clause-stopped
returns-then-whole-clause-stopped g c one = inr (inr (inr (inl ((g.F.Files.shelf c.read_out.new.files), c.in-Ok.whole, c.in-Ok.ensures.ok, subst (λ begun. AreHolesAbsent c.args.asked.now c.args.asked.now.picture (g.F.Files.shelf c.read_out.new.files) (g.F.Files.shelf c.drawn-ending.new.files) begun c.drawn-ending.result.told.is_whole (g.E.Write.contents c.args.faults.now) (g.E.Write.contents c.drawn-ending.new.faults)) c.silent.ensures (c.drawn-ending.ensures.absent one)))))

pub returns-else-whole-clause-stopped : goal.returns-else-whole-clause-stopped
returns-else-whole-clause-stopped g c one = elim (by_status _ _ c.drawn-ending.result.status c.drawn-ending.ensures.within (λ zero. c.drawn-ending.ensures.there zero) (λ one. c.drawn-ending.ensures.absent one)) [
  | inl there ↦ inr (inr (inr (inr ((g.F.Files.shelf c.read_out.new.files), subst (λ yes. IsReadOut c.args.asked.now (g.F.Files.shelf c.args.files.now) (g.F.Files.shelf c.read_out.new.files) (g.W.Write.contents c.args.writer.now) (g.W.Write.contents c.read_out.new.writer) yes) c.if-whole.false c.in-Ok.ensures.ok, there.0, (there.1.0 ∙ c.silent.ensures, there.1.1)))))
  | inr absent ↦ inr (inr (inr (inl ((g.F.Files.shelf c.read_out.new.files), c.in-Ok.whole, c.in-Ok.ensures.ok, subst (λ begun. AreHolesAbsent c.args.asked.now c.args.asked.now.picture (g.F.Files.shelf c.read_out.new.files) (g.F.Files.shelf c.drawn-ending.new.files) begun c.drawn-ending.result.told.is_whole (g.E.Write.contents c.args.faults.now) (g.E.Write.contents c.drawn-ending.new.faults)) c.silent.ensures absent))))
]

pub returns-in-Err-Write-clause-stopped : goal.returns-in-Err-Write-clause-stopped
returns-in-Err-Write-clause-stopped g c one = inr (inr (inl ((g.F.Files.shelf c.read_out.new.files), c.reported.result.told.is_whole, (g.E.Write.contents c.reported.new.faults), subst (λ fault. IsNotReadOut c.args.asked.now (g.F.Files.shelf c.args.files.now) (g.F.Files.shelf c.read_out.new.files) (g.W.Write.contents c.args.writer.now) (g.W.Write.contents c.read_out.new.writer) fault) c.in-Err-Write.field-0-is c.in-Err-Write.ensures.err, c.reported.ensures.1, by_status _ _ c.drawn-ending-in-Err-Write.result.status c.drawn-ending-in-Err-Write.ensures.within (λ zero. c.drawn-ending-in-Err-Write.ensures.there zero) (λ one. c.drawn-ending-in-Err-Write.ensures.absent one))))

pub returns-in-Err : goal.returns-in-Err
returns-in-Err g c = record {
  within = omega (arith, c.reported-in-Err.ensures.0);
  done = λ zero. absurd (omega (arith, zero, c.reported-in-Err.ensures.0));
  stopped = λ one. inr (inl (c.in-Err.fault, search rules, c.in-Err.ensures.err, (_, subst (λ cause. Reports cause c.reported-in-Err.result.told.is_whole (g.E.Write.contents c.args.faults.now) (g.E.Write.contents c.reported-in-Err.new.faults)) c.reading_cause.ensures c.reported-in-Err.ensures.1)));
}
