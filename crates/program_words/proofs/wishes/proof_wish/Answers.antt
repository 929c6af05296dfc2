use Rattle.std.proofs.Common.{codes, subst}
use Rattle.clap.specs.Words.{found_of, rows_of}
use Rattle.program_words.specs.Words.{AreDrawn, AreGalley}
use Rattle.program_words.specs.declared.wishes.Subcommand.TheVariants as subcommands
use Rattle.program_words.proofs.Asked.{no_wish}
use Rattle.program_words.proofs.wishes.proof_wish.Goals as goal

pub returns-in_default-clause-wish : goal.returns-in_default-clause-wish
returns-in_default-clause-wish c = no_wish (rows_of (found_of c.args.matches.now)) subcommands.Proof (λ galley drawings asks draws. subst (AreGalley (rows_of (found_of c.args.matches.now))) c.in_default.is c.galley_of.ensures galley asks)

pub returns-in_default-drawings_of-clause-wish : goal.returns-in_default-drawings_of-clause-wish
returns-in_default-drawings_of-clause-wish c = no_wish (rows_of (found_of c.args.matches.now)) subcommands.Proof (λ galley drawings asks draws. subst (AreDrawn (rows_of (found_of c.args.matches.now))) c.in_default-drawings_of.is c.drawings_of.ensures drawings draws)
