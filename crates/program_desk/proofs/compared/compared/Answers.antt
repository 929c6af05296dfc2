use Rattle.std.proofs.Common.{inl, inr}
use Rattle.feed_sites.specs.Reporting.{IsReported, IsUnreported}
use Rattle.program_desk.proofs.Statuses.{no_of, yes_of}
use Rattle.program_desk.proofs.compared.compared.Goals as goal

pub returns-clause-done : goal.returns-clause-done
returns-clause-done g c zero = (c.report_difference-outcome.ensures.stays, yes_of c.report_difference-outcome.result (λ yes. IsReported c.args.one c.args.other.now (g.F.Files.shelf c.args.files.now) (g.W.Write.contents c.args.writer.now) (g.W.Write.contents c.report_difference-outcome.new.writer) yes) _ _ c.difference_ending.result.status c.difference_ending.ensures c.report_difference-outcome.ensures.ok zero)

pub returns-clause-stopped : goal.returns-clause-stopped
returns-clause-stopped g c one = elim (no_of c.report_difference-outcome.result (λ yes. IsReported c.args.one c.args.other.now (g.F.Files.shelf c.args.files.now) (g.W.Write.contents c.args.writer.now) (g.W.Write.contents c.report_difference-outcome.new.writer) yes)
    (λ why. IsUnreported c.args.one c.args.other.now (g.F.Files.shelf c.args.files.now) (g.F.Files.shelf c.report_difference-outcome.new.files) (g.W.Write.contents c.args.writer.now) (g.W.Write.contents c.report_difference-outcome.new.writer) why) _ _ c.difference_ending.result.status c.difference_ending.ensures c.report_difference-outcome.ensures.ok c.report_difference-outcome.ensures.err one) [
      | inl written ↦ inl ((c.report_difference-outcome.ensures.stays, written.0), written.1)
      | inr unwritten ↦ inr (c.report_difference-outcome.ensures.stays, unwritten.0, unwritten.1, unwritten.2)
    ]
