use Rattle.std.proofs.Common.{◌≤◌, length, ◌∙◌}
use Rattle.desk_lines.specs.Words.{joined}
use Rattle.desk_job.proofs.Asked.{of_any, word_asked}
use Rattle.view_galley.proofs.Numbered.{next_paragraph}
use Rattle.view_galley.proofs.galley.add_paragraphs.Goals as goal

pub loop-paragraph-preserved : goal.loop-paragraph-preserved
loop-paragraph-preserved g c =
    next_paragraph c.args.terms.now c.args.copy.now c.args.found.now _ _ _ _ _ _ c.loop-paragraph-test.true (c.words.ensures ∙ c.paragraph-item.is)
    c.in_ok-add_paragraph.ensures.ok c.loop-paragraph.invariant

pub returns-in_err-add_paragraph-clause-memory : goal.returns-in_err-add_paragraph-clause-memory
returns-in_err-add_paragraph-clause-memory g c =
    of_any c.from_residual.result (1 ≤ length (joined c.args.found.now))
    (word_asked c.args.found.now _ _ _ c.loop-paragraph-test.true (c.words.ensures ∙ c.paragraph-item.is) c.in_err-add_paragraph.ensures.memory)
