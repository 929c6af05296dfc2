use Rattle.std.proofs.Common.{codes}
use Rattle.clap.specs.Words.{found_of}
use Rattle.program_words.proofs.Asked.{named, unnamed}
use Rattle.program_words.proofs.wishes.ribbon_of.Goals as goal

pub returns-in_default : goal.returns-in_default
returns-in_default c = λ from names. unnamed (codes "ribbon") (found_of c.args.matches.now) c.get_str.result c.get_str.ensures c.in_default.is from.ribbon.now names.0

pub returns-in_default-get_str : goal.returns-in_default-get_str
returns-in_default-get_str c = λ from names. unnamed (codes "case") (found_of c.args.matches.now) c.get_str-2.result c.get_str-2.ensures c.in_default-get_str.is from.case.now names.1

pub returns-in-Some-get_str-2 : goal.returns-in-Some-get_str-2
returns-in-Some-get_str-2 c = (
  named (codes "ribbon") (found_of c.args.matches.now) c.get_str.result c.in-Some.ribbon c.get_str.ensures c.in-Some.is,
  named (codes "case") (found_of c.args.matches.now) c.get_str-2.result c.in-Some-get_str.case c.get_str-2.ensures c.in-Some-get_str.is,
  named (codes "wedge") (found_of c.args.matches.now) c.get_str-3.result c.in-Some-get_str-2.wedge c.get_str-3.ensures c.in-Some-get_str-2.is,
)

pub returns-in-None : goal.returns-in-None
returns-in-None c = λ from names. unnamed (codes "wedge") (found_of c.args.matches.now) c.get_str-3.result c.get_str-3.ensures c.in-None.is from.wedge.now names.2
