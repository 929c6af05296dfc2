use Rattle.std.proofs.Common.{codes, subst}
use Rattle.clap.specs.Words.{first_of, found_of, rows_of}
use Rattle.program_words.specs.Choices.{IsPaged}
use Rattle.program_words.proofs.Asked.{paged}
use Rattle.program_words.proofs.wishes.drawings_of.Goals as goal

pub returns-in-Some : goal.returns-in-Some
returns-in-Some c = (
  (c.choice_of-picture.ensures, c.flag_of-force.ensures),
  c.choice_of-document.ensures,
  subst (IsPaged (first_of (codes "page") (rows_of (found_of c.args.matches.now))) (first_of (codes "svg") (rows_of (found_of c.args.matches.now))) (first_of (codes "html") (rows_of (found_of c.args.matches.now)))) c.in-Some.is
      (paged (rows_of (found_of c.args.matches.now)) _ _ _ c.page_by.result c.choice_of-height.ensures c.choice_of-picture.ensures c.choice_of-document.ensures c.page_by.ensures),
)

pub returns-in-None : goal.returns-in-None
returns-in-None c = λ drawings draws.
    subst (IsPaged (first_of (codes "page") (rows_of (found_of c.args.matches.now))) (first_of (codes "svg") (rows_of (found_of c.args.matches.now))) (first_of (codes "html") (rows_of (found_of c.args.matches.now)))) c.in-None.is
    (paged (rows_of (found_of c.args.matches.now)) _ _ _ c.page_by.result c.choice_of-height.ensures c.choice_of-picture.ensures c.choice_of-document.ensures c.page_by.ensures) drawings.page draws.2
