use Rattle.std.proofs.Common.{inl, inr}
use Rattle.view_punch.specs.Reporting.{AreListed, AreUnlisted}
use Rattle.program_desk.proofs.Statuses.{no_of, yes_of}
use Rattle.program_desk.proofs.readings.listed.Goals as goal

pub returns-clause-done : goal.returns-clause-done
returns-clause-done g c zero = (c.report_sorts-outcome.ensures.stays, yes_of c.report_sorts-outcome.result (λ yes. AreListed c.args.asked.version c.args.asked.case.now c.args.asked.layout (g.F.Files.shelf c.args.files.now) (g.W.Write.contents c.args.writer.now) (g.W.Write.contents c.report_sorts-outcome.new.writer) yes) _ _ c.sorts_ending.result.status c.sorts_ending.ensures c.report_sorts-outcome.ensures.ok zero)

pub returns-clause-stopped : goal.returns-clause-stopped
returns-clause-stopped g c one = elim (no_of c.report_sorts-outcome.result (λ yes. AreListed c.args.asked.version c.args.asked.case.now c.args.asked.layout (g.F.Files.shelf c.args.files.now) (g.W.Write.contents c.args.writer.now) (g.W.Write.contents c.report_sorts-outcome.new.writer) yes)
    (λ why. AreUnlisted c.args.asked.version c.args.asked.case.now c.args.asked.layout (g.F.Files.shelf c.args.files.now) (g.F.Files.shelf c.report_sorts-outcome.new.files) (g.W.Write.contents c.args.writer.now) (g.W.Write.contents c.report_sorts-outcome.new.writer) why) _ _ c.sorts_ending.result.status c.sorts_ending.ensures c.report_sorts-outcome.ensures.ok c.report_sorts-outcome.ensures.err one) [
      | inl written ↦ inl ((c.report_sorts-outcome.ensures.stays, written.0), written.1)
      | inr unwritten ↦ inr (c.report_sorts-outcome.ensures.stays, unwritten.0, unwritten.1, unwritten.2)
    ]
