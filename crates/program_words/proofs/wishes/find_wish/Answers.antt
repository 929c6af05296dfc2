use Rattle.std.proofs.Common.{codes, refl, subst}
use Rattle.clap.specs.Words.{found_of, rows_of}
use Rattle.program_words.specs.Words.{AreMetal}
use Rattle.program_words.specs.declared.wishes.Subcommand.TheVariants as subcommands
use Rattle.program_words.proofs.Asked.{named, no_wish, unnamed}
use Rattle.program_words.proofs.wishes.find_wish.Goals as goal

pub returns-in_default : goal.returns-in_default
returns-in_default c = no_wish (rows_of (found_of c.args.matches.now)) subcommands.Find (λ feed text metal one two three. unnamed (codes "feed") (found_of c.args.matches.now) c.get_str.result c.get_str.ensures c.in_default.is feed one)

pub returns-in_default-get_str : goal.returns-in_default-get_str
returns-in_default-get_str c = no_wish (rows_of (found_of c.args.matches.now)) subcommands.Find (λ feed text metal one two three. unnamed (codes "text") (found_of c.args.matches.now) c.get_str-2.result c.get_str-2.ensures c.in_default-get_str.is text two)

pub returns-in-Some-metal_of : goal.returns-in-Some-metal_of
returns-in-Some-metal_of c = (
  refl,
  (
    named (codes "feed") (found_of c.args.matches.now) c.get_str.result c.in-Some.feed c.get_str.ensures c.in-Some.is,
    named (codes "text") (found_of c.args.matches.now) c.get_str-2.result c.in-Some-get_str.text c.get_str-2.ensures c.in-Some-get_str.is,
    c.flag_of-plain.ensures,
    subst (AreMetal (rows_of (found_of c.args.matches.now))) c.in-Some-metal_of.is c.metal_of.ensures,
  ),
)

pub returns-in-None : goal.returns-in-None
returns-in-None c = no_wish (rows_of (found_of c.args.matches.now)) subcommands.Find (λ feed text metal one two three. subst (AreMetal (rows_of (found_of c.args.matches.now))) c.in-None.is c.metal_of.ensures metal three)
