use Rattle.std.proofs.Common.{codes, refl}
use Rattle.clap.specs.Words.{found_of, rows_of}
use Rattle.program_words.specs.declared.wishes.Subcommand.TheVariants as subcommands
use Rattle.program_words.proofs.Asked.{named, no_wish, unnamed}
use Rattle.program_words.proofs.wishes.sorts_wish.Goals as goal

pub returns-in_default : goal.returns-in_default
returns-in_default c = no_wish (rows_of (found_of c.args.matches.now)) subcommands.Sorts (λ feed case one two. unnamed (codes "feed") (found_of c.args.matches.now) c.get_str.result c.get_str.ensures c.in_default.is feed one)

pub returns-in-Some-get_str : goal.returns-in-Some-get_str
returns-in-Some-get_str c = (
  refl,
  (
    named (codes "feed") (found_of c.args.matches.now) c.get_str.result c.in-Some.feed c.get_str.ensures c.in-Some.is,
    c.number_of-until.ensures,
    named (codes "case") (found_of c.args.matches.now) c.get_str-2.result c.in-Some-get_str.case c.get_str-2.ensures c.in-Some-get_str.is,
    c.flag_of-layout.ensures,
  ),
)

pub returns-in-None : goal.returns-in-None
returns-in-None c = no_wish (rows_of (found_of c.args.matches.now)) subcommands.Sorts (λ feed case one two. unnamed (codes "case") (found_of c.args.matches.now) c.get_str-2.result c.get_str-2.ensures c.in-None.is case two)
