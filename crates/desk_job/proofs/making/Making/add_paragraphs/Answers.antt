use Rattle.std.proofs.Common.{◌≤◌, length, ◌∙◌}
use Rattle.desk_lines.specs.Words.{joined}
use Rattle.desk_job.proofs.Adding.{adding_step, adding_room}
use Rattle.desk_job.proofs.Asked.{of_any, word_asked}
use Rattle.desk_job.proofs.Paragraphs.{next_paragraph}
use Rattle.desk_job.proofs.making.Making.add_paragraphs.Goals as goal

pub add_paragraph-requires-clause-can_add : goal.add_paragraph-requires-clause-can_add
add_paragraph-requires-clause-can_add g c =
    adding_room c.args.terms.now _ _ _ _ _ c.requires.can_add (next_paragraph c.args.terms.now _ _ _ _ _ _ _ _ c.loop-paragraph-test.true (c.words.ensures ∙ c.paragraph-item.is) c.loop-paragraph.invariant)

pub loop-paragraph-preserved : goal.loop-paragraph-preserved
loop-paragraph-preserved g c =
    adding_step c.args.terms.now _ _ _ _ _ _ (next_paragraph c.args.terms.now _ _ _ _ _ _ _ _ c.loop-paragraph-test.true (c.words.ensures ∙ c.paragraph-item.is) c.loop-paragraph.invariant) c.in_ok-add_paragraph.ensures.ok

pub returns-in_err-add_paragraph-clause-memory : goal.returns-in_err-add_paragraph-clause-memory
returns-in_err-add_paragraph-clause-memory g c =
    of_any c.from_residual.result (1 ≤ length (joined c.args.found.now))
    (word_asked c.args.found.now _ _ _ c.loop-paragraph-test.true (c.words.ensures ∙ c.paragraph-item.is) c.in_err-add_paragraph.ensures.memory)
