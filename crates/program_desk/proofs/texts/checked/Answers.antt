use Rattle.std.proofs.Common.{inl, inr}
use Rattle.feed_check.specs.Checking.{IsChecked, IsUnchecked}
use Rattle.program_words.specs.Words.{texts_of}
use Rattle.program_desk.proofs.Statuses.{no_of, yes_of}
use Rattle.program_desk.proofs.texts.checked.Goals as goal

pub returns-clause-done : goal.returns-clause-done
returns-clause-done g c zero = (c.check_files-outcome.ensures.stays, yes_of c.check_files-outcome.result (λ yes. IsChecked (texts_of c.args.names.now) (g.F.Files.shelf c.args.files.now) (g.F.Files.shelf c.check_files-outcome.new.files) (g.W.Write.contents c.args.writer.now) (g.W.Write.contents c.check_files-outcome.new.writer) yes) _ _ c.check_ending.result.status c.check_ending.ensures c.check_files-outcome.ensures.ok zero)

pub returns-clause-stopped : goal.returns-clause-stopped
returns-clause-stopped g c one = elim (no_of c.check_files-outcome.result (λ yes. IsChecked (texts_of c.args.names.now) (g.F.Files.shelf c.args.files.now) (g.F.Files.shelf c.check_files-outcome.new.files) (g.W.Write.contents c.args.writer.now) (g.W.Write.contents c.check_files-outcome.new.writer) yes)
    (λ why. IsUnchecked (texts_of c.args.names.now) (g.F.Files.shelf c.args.files.now) (g.F.Files.shelf c.check_files-outcome.new.files) (g.W.Write.contents c.args.writer.now) (g.W.Write.contents c.check_files-outcome.new.writer) why) _ _ c.check_ending.result.status c.check_ending.ensures c.check_files-outcome.ensures.ok c.check_files-outcome.ensures.err one) [
      | inl written ↦ inl ((c.check_files-outcome.ensures.stays, written.0), written.1)
      | inr unwritten ↦ inr (c.check_files-outcome.ensures.stays, unwritten.0, unwritten.1, unwritten.2)
    ]
