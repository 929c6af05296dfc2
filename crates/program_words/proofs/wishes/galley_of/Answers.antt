use Rattle.std.proofs.Common.{codes, subst}
use Rattle.clap.specs.Words.{found_of, rows_of}
use Rattle.program_words.specs.Words.{AreCopied, AreFormed}
use Rattle.program_words.proofs.Asked.{named, unnamed}
use Rattle.program_words.proofs.wishes.galley_of.Goals as goal

pub returns-in_default : goal.returns-in_default
returns-in_default c = λ galley asks. (subst (AreCopied (rows_of (found_of c.args.matches.now))) c.in_default.is c.source_of.ensures) galley.source asks.0

pub returns-in_default-form_of : goal.returns-in_default-form_of
returns-in_default-form_of c = λ galley asks. (subst (AreFormed (rows_of (found_of c.args.matches.now))) c.in_default-form_of.is c.form_of.ensures) galley.form asks.3

pub returns-in_default-get_str : goal.returns-in_default-get_str
returns-in_default-get_str c = λ galley asks. unnamed (codes "case") (found_of c.args.matches.now) c.get_str.result c.get_str.ensures c.in_default-get_str.is galley.case.now asks.1

pub returns-in-Some-get_str-2 : goal.returns-in-Some-get_str-2
returns-in-Some-get_str-2 c = (
  subst (AreCopied (rows_of (found_of c.args.matches.now))) c.in-Some.is c.source_of.ensures,
  named (codes "case") (found_of c.args.matches.now) c.get_str.result c.in-Some-get_str.case c.get_str.ensures c.in-Some-get_str.is,
  named (codes "wedge") (found_of c.args.matches.now) c.get_str-2.result c.in-Some-get_str-2.wedge c.get_str-2.ensures c.in-Some-get_str-2.is,
  subst (AreFormed (rows_of (found_of c.args.matches.now))) c.in-Some-form_of.is c.form_of.ensures,
  c.flag_of-looks.ensures,
)

pub returns-in-None : goal.returns-in-None
returns-in-None c = λ galley asks. unnamed (codes "wedge") (found_of c.args.matches.now) c.get_str-2.result c.get_str-2.ensures c.in-None.is galley.wedge.now asks.2
