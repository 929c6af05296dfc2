use Rattle.std.proofs.Common.{inl, inr}
use Rattle.view_ribbon.specs.Comparing.{IsComparison, IsNoComparison}
use Rattle.program_desk.proofs.Statuses.{no_of, yes_of}
use Rattle.program_desk.proofs.compared.cast_compared.Goals as goal

pub returns-clause-done : goal.returns-clause-done
returns-clause-done g c zero = (c.compare_ribbons-outcome.ensures.stays, yes_of c.compare_ribbons-outcome.result (λ yes. IsComparison c.args.pair.now (g.F.Files.shelf c.args.files.now) (g.W.Write.contents c.args.writer.now) (g.W.Write.contents c.compare_ribbons-outcome.new.writer) yes) _ _ c.comparison_ending.result.status c.comparison_ending.ensures c.compare_ribbons-outcome.ensures.ok zero)

pub returns-clause-stopped : goal.returns-clause-stopped
returns-clause-stopped g c one = elim (no_of c.compare_ribbons-outcome.result (λ yes. IsComparison c.args.pair.now (g.F.Files.shelf c.args.files.now) (g.W.Write.contents c.args.writer.now) (g.W.Write.contents c.compare_ribbons-outcome.new.writer) yes)
    (λ why. IsNoComparison c.args.pair.now (g.F.Files.shelf c.args.files.now) (g.F.Files.shelf c.compare_ribbons-outcome.new.files) (g.W.Write.contents c.args.writer.now) (g.W.Write.contents c.compare_ribbons-outcome.new.writer) why) _ _ c.comparison_ending.result.status c.comparison_ending.ensures c.compare_ribbons-outcome.ensures.ok c.compare_ribbons-outcome.ensures.err one) [
      | inl written ↦ inl ((c.compare_ribbons-outcome.ensures.stays, written.0), written.1)
      | inr unwritten ↦ inr (c.compare_ribbons-outcome.ensures.stays, unwritten.0, unwritten.1, unwritten.2)
    ]
