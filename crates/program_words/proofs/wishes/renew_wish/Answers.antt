use Rattle.std.proofs.Common.{codes, refl}
use Rattle.clap.specs.Words.{found_of, rows_of}
use Rattle.program_words.specs.declared.wishes.Subcommand.TheVariants as subcommands
use Rattle.program_words.proofs.Asked.{named, no_wish, unnamed}
use Rattle.program_words.proofs.wishes.renew_wish.Goals as goal

pub returns-in_default : goal.returns-in_default
returns-in_default c = no_wish (rows_of (found_of c.args.matches.now)) subcommands.Renew (λ feed site name desk names. c.in_default.ensures.none refl feed site desk)

pub returns-in-Some-get_str : goal.returns-in-Some-get_str
returns-in-Some-get_str c = (
  refl,
  (
    c.in-Some.ensures.some,
    named (codes "new") (found_of c.args.matches.now) c.get_str.result c.in-Some-get_str.new c.get_str.ensures c.in-Some-get_str.is,
  ),
)

pub returns-in-None : goal.returns-in-None
returns-in-None c = no_wish (rows_of (found_of c.args.matches.now)) subcommands.Renew (λ feed site name desk names. unnamed (codes "new") (found_of c.args.matches.now) c.get_str.result c.get_str.ensures c.in-None.is name names)
