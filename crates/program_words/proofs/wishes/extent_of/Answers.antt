use Rattle.clap.specs.Words.{found_of, rows_of}
use Rattle.program_words.proofs.Asked.{shown}
use Rattle.program_words.proofs.wishes.extent_of.Goals as goal

pub returns : goal.returns
returns c = shown (rows_of (found_of c.args.matches.now)) c.flag_of.result _ _ c.extent_by.result c.flag_of.ensures c.choice_of.ensures c.choice_of-2.ensures c.extent_by.ensures
