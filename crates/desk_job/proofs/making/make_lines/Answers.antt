use Rattle.std.proofs.Common.{◌≤◌, List, length, ◌∙◌, subst, sym}
use Rattle.std.specs.List.{All}
use Rattle.desk_lines.specs.declared.words.Word.{Word}
use Rattle.desk_lines.specs.Words.{words_of}
use Rattle.desk_job.specs.Job.{SetLine, lines}
use Rattle.desk_job.specs.Making.{Found, Adds, AreWordsOf, CanAdd, all_lines}
use Rattle.desk_job.proofs.Asked.{of_any, symbol_asked}
use Rattle.desk_job.proofs.Bounds.{copy_room}
use Rattle.desk_job.proofs.Paragraphs.{copy_is, words_stand}
use Rattle.desk_job.proofs.making.make_lines.Goals as goal

pub add_paragraphs-requires-clause-words : goal.add_paragraphs-requires-clause-words
add_paragraphs-requires-clause-words g c =
    subst (λ (found : List (List Word)). All (AreWordsOf c.args.copy.now) found) (sym (c.deref.ensures.value ∙ c.in_ok-found.ensures.ok))
    (words_stand c.args.copy.now c.requires.copy)

pub add_paragraphs-requires-clause-can_add : goal.add_paragraphs-requires-clause-can_add
add_paragraphs-requires-clause-can_add g c =
    subst (λ (found : List (List Word)). CanAdd c.args.terms.now (all_lines c.args.terms.now c.args.copy.now found) c.new-making.result)
    (sym (c.deref.ensures.value ∙ c.in_ok-found.ensures.ok))
    (subst (λ (before : Found). CanAdd c.args.terms.now (all_lines c.args.terms.now c.args.copy.now (words_of c.args.copy.now)) before) (sym c.new-making.ensures)
    (copy_room c.args.terms.now c.args.copy.now c.requires.usable c.requires.copy))

pub returns-clause-ok : goal.returns-clause-ok
returns-clause-ok g c =
    subst (λ (before : Found). Adds c.args.terms.now (lines c.args.terms.now c.args.copy.now) before c.add_paragraphs.new.self) c.new-making.ensures
    (subst (λ (ls : List SetLine). Adds c.args.terms.now ls c.new-making.result c.add_paragraphs.new.self)
    (copy_is c.args.terms.now c.args.copy.now)
    (subst (λ (found : List (List Word)). Adds c.args.terms.now (all_lines c.args.terms.now c.args.copy.now found) c.new-making.result c.add_paragraphs.new.self)
    (c.deref.ensures.value ∙ c.in_ok-found.ensures.ok) c.in_ok-add_paragraphs.ensures.ok))

pub returns-in_err-add_paragraphs-clause-memory : goal.returns-in_err-add_paragraphs-clause-memory
returns-in_err-add_paragraphs-clause-memory g c =
    of_any c.from_residual-in_err-add_paragraphs.result (1 ≤ length c.args.copy.now)
    (symbol_asked c.args.copy.now _ (c.deref.ensures.value ∙ c.in_ok-found.ensures.ok) c.in_err-add_paragraphs.ensures.memory)
