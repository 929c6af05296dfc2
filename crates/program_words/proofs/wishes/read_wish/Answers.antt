use Rattle.std.proofs.Common.{subst}
use Rattle.clap.specs.Words.{found_of, rows_of}
use Rattle.program_words.specs.Words.{AreShown}
use Rattle.program_words.specs.declared.wishes.Subcommand.TheVariants as subcommands
use Rattle.program_words.proofs.Asked.{no_wish}
use Rattle.program_words.proofs.wishes.read_wish.Goals as goal

pub returns-in-None : goal.returns-in-None
returns-in-None c = no_wish (rows_of (found_of c.args.matches.now)) subcommands.Read (λ from extent names. subst (AreShown (rows_of (found_of c.args.matches.now))) c.in-None.is c.extent_of.ensures extent)
