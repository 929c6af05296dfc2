use Rattle.std.proofs.Common.{codes, refl}
use Rattle.clap.specs.Words.{found_of, rows_of}
use Rattle.program_words.specs.declared.wishes.Subcommand.TheVariants as subcommands
use Rattle.program_words.proofs.Asked.{named, no_wish, unnamed}
use Rattle.program_words.proofs.wishes.log_wish.Goals as goal

pub returns-in-Some : goal.returns-in-Some
returns-in-Some c = (
  refl,
  (
    named (codes "feed") (found_of c.args.matches.now) c.get_str.result c.in-Some.feed c.get_str.ensures c.in-Some.is,
    c.room_of-site.ensures,
    c.number_of-since.ensures,
    c.choice_of-text.ensures,
  ),
)

pub returns-in-None : goal.returns-in-None
returns-in-None c = no_wish (rows_of (found_of c.args.matches.now)) subcommands.Log (unnamed (codes "feed") (found_of c.args.matches.now) c.get_str.result c.get_str.ensures c.in-None.is)
