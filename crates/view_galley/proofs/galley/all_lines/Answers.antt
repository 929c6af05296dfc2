use Rattle.std.proofs.Common.{◌≤◌, List, length, ◌∙◌, subst, sym}
use Rattle.std.specs.List.{All}
use Rattle.desk_lines.specs.declared.words.Word.{Word}
use Rattle.desk_job.specs.Making.{AreWordsOf}
use Rattle.desk_job.proofs.Asked.{of_any, symbol_asked}
use Rattle.desk_job.proofs.Paragraphs.{words_stand}
use Rattle.view_galley.proofs.Numbered.{from_none}
use Rattle.view_galley.proofs.galley.all_lines.Goals as goal

pub add_paragraphs-requires-clause-words : goal.add_paragraphs-requires-clause-words
add_paragraphs-requires-clause-words g c =
    subst (λ (found : List (List Word)). All (AreWordsOf c.args.copy.now) found) (sym (c.deref.ensures.value ∙ c.in_ok-found.ensures.ok))
    (words_stand c.args.copy.now c.requires)

pub returns-clause-ok : goal.returns-clause-ok
returns-clause-ok g c =
    from_none c.args.terms.now c.args.copy.now _ _ _ c.new-lines.ensures.items (c.deref.ensures.value ∙ c.in_ok-found.ensures.ok) c.in_ok-add_paragraphs.ensures.ok

pub returns-in_err-add_paragraphs-clause-memory : goal.returns-in_err-add_paragraphs-clause-memory
returns-in_err-add_paragraphs-clause-memory g c =
    of_any c.from_residual-in_err-add_paragraphs.result (1 ≤ length c.args.copy.now)
    (symbol_asked c.args.copy.now _ (c.deref.ensures.value ∙ c.in_ok-found.ensures.ok) c.in_err-add_paragraphs.ensures.memory)
