use Rattle.std.proofs.Common.{inl, inr, subst}
use Rattle.view_punch.specs.Finding.{IsFound, IsUnfound}
use Rattle.view_preview.specs.declared.sources.Sources.{Sources}
use Rattle.program_desk.specs.Causes.{preview_cause}
use Rattle.program_desk.specs.Explained.{Reports}
use Rattle.program_desk.proofs.Statuses.{no_of, yes_of}
use Rattle.program_desk.proofs.history.sought.Goals as goal

pub returns-clause-done : goal.returns-clause-done
returns-clause-done g c zero = (c.find_text-outcome.ensures.stays, yes_of c.find_text-outcome.result (λ yes. IsFound c.args.feed c.args.asked.now (g.F.Files.shelf c.args.files.now) (g.W.Write.contents c.args.writer.now) (g.W.Write.contents c.find_text-outcome.new.writer) yes) _ _ c.search_ending.result.status c.search_ending.ensures c.find_text-outcome.ensures.ok zero)

pub returns-clause-stopped : goal.returns-clause-stopped
returns-clause-stopped g c one = elim (no_of c.find_text-outcome.result (λ yes. IsFound c.args.feed c.args.asked.now (g.F.Files.shelf c.args.files.now) (g.W.Write.contents c.args.writer.now) (g.W.Write.contents c.find_text-outcome.new.writer) yes)
    (λ why. IsUnfound c.args.feed c.args.asked.now (g.F.Files.shelf c.args.files.now) (g.F.Files.shelf c.find_text-outcome.new.files) (g.W.Write.contents c.args.writer.now) (g.W.Write.contents c.find_text-outcome.new.writer) why) _ _ c.search_ending.result.status c.search_ending.ensures c.find_text-outcome.ensures.ok c.find_text-outcome.ensures.err one) [
      | inl written ↦ inl ((c.find_text-outcome.ensures.stays, written.0), written.1)
      | inr unwritten ↦ inr (
        c.find_text-outcome.ensures.stays,
        unwritten.0,
        unwritten.1,
        subst (λ (s : Sources). Reports (preview_cause s s.version.feed unwritten.0) c.search_ending.result.told.is_whole (g.E.Write.contents c.args.faults.now) (g.E.Write.contents c.search_ending.new.faults)) c.sought_in-from.ensures unwritten.2,
      )
    ]
