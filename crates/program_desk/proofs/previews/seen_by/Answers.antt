use Rattle.std.proofs.Common.{◌∙◌, inl, inr, subst, arith, rules}
use Rattle.program_desk.specs.Explained.{Reports}
use Rattle.program_desk.specs.Depicting.{AreAbsent}
use Rattle.program_desk.specs.Previews.{IsShown, IsUnshown}
use Rattle.program_desk.proofs.Previewing.{by_status}
use Rattle.program_desk.proofs.previews.seen_by.Goals as goal

pub returns-then-clean-clause-done : goal.returns-then-clean-clause-done
returns-then-clean-clause-done g c zero = ((g.F.Files.shelf c.shown.new.files), subst (λ yes. IsShown c.args.asked.now c.args.trial.now (g.F.Files.shelf c.args.files.now) (g.F.Files.shelf c.shown.new.files) (g.W.Write.contents c.args.writer.now) (g.W.Write.contents c.shown.new.writer) yes) c.if-clean.true c.in-Ok.ensures.ok, (c.depicted-ending.ensures.there zero).0)

pub returns-then-clean-clause-stopped : goal.returns-then-clean-clause-stopped
returns-then-clean-clause-stopped g c one = inr (inr (inl ((g.F.Files.shelf c.shown.new.files), c.in-Ok.clean, c.in-Ok.ensures.ok, subst (λ begun. AreAbsent c.args.asked.now c.args.trial.now (g.F.Files.shelf c.shown.new.files) (g.F.Files.shelf c.depicted-ending.new.files) begun c.depicted-ending.result.told.is_whole (g.E.Write.contents c.args.faults.now) (g.E.Write.contents c.depicted-ending.new.faults)) c.silent.ensures (c.depicted-ending.ensures.absent one))))

pub returns-else-clean-clause-stopped : goal.returns-else-clean-clause-stopped
returns-else-clean-clause-stopped g c one = elim (by_status _ _ c.depicted-ending.result.status c.depicted-ending.ensures.within (λ zero. c.depicted-ending.ensures.there zero) (λ one. c.depicted-ending.ensures.absent one)) [
  | inl there ↦ inr (inr (inr ((g.F.Files.shelf c.shown.new.files), subst (λ yes. IsShown c.args.asked.now c.args.trial.now (g.F.Files.shelf c.args.files.now) (g.F.Files.shelf c.shown.new.files) (g.W.Write.contents c.args.writer.now) (g.W.Write.contents c.shown.new.writer) yes) c.if-clean.false c.in-Ok.ensures.ok, there.0, (there.1.0 ∙ c.silent.ensures, there.1.1))))
  | inr absent ↦ inr (inr (inl ((g.F.Files.shelf c.shown.new.files), c.in-Ok.clean, c.in-Ok.ensures.ok, subst (λ begun. AreAbsent c.args.asked.now c.args.trial.now (g.F.Files.shelf c.shown.new.files) (g.F.Files.shelf c.depicted-ending.new.files) begun c.depicted-ending.result.told.is_whole (g.E.Write.contents c.args.faults.now) (g.E.Write.contents c.depicted-ending.new.faults)) c.silent.ensures absent)))
]

pub returns-in-Err-Write-clause-stopped : goal.returns-in-Err-Write-clause-stopped
returns-in-Err-Write-clause-stopped g c one = inr (inl ((g.F.Files.shelf c.shown.new.files), c.reported.result.told.is_whole, (g.E.Write.contents c.reported.new.faults), subst (λ fault. IsUnshown c.args.asked.now c.args.trial.now (g.F.Files.shelf c.args.files.now) (g.F.Files.shelf c.shown.new.files) (g.W.Write.contents c.args.writer.now) (g.W.Write.contents c.shown.new.writer) fault) c.in-Err-Write.field-0-is c.in-Err-Write.ensures.err, c.reported.ensures.1, by_status _ _ c.depicted-ending-in-Err-Write.result.status c.depicted-ending-in-Err-Write.ensures.within (λ zero. c.depicted-ending-in-Err-Write.ensures.there zero) (λ one. c.depicted-ending-in-Err-Write.ensures.absent one)))

pub returns-in-Err : goal.returns-in-Err
returns-in-Err g c = record {
  within = omega (arith, c.reported-in-Err.ensures.0);
  done = λ zero. absurd (omega (arith, zero, c.reported-in-Err.ensures.0));
  stopped = λ one. inl (c.in-Err.fault, search rules, c.in-Err.ensures.err, (_, subst (λ cause. Reports cause c.reported-in-Err.result.told.is_whole (g.E.Write.contents c.args.faults.now) (g.E.Write.contents c.reported-in-Err.new.faults)) c.proof_cause.ensures c.reported-in-Err.ensures.1));
}
