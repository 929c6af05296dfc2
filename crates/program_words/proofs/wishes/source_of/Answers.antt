use Rattle.clap.specs.Words.{found_of, rows_of}
use Rattle.program_words.proofs.Asked.{copied}
use Rattle.program_words.proofs.wishes.source_of.Goals as goal

pub returns : goal.returns
returns c = copied (rows_of (found_of c.args.matches.now)) c.number_of.result c.flag_of.result _ _ c.source_by.result c.number_of.ensures c.flag_of.ensures c.choice_of.ensures c.choice_of-2.ensures c.source_by.ensures
