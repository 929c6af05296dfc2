use Rattle.clap.specs.Words.{found_of, rows_of}
use Rattle.program_words.proofs.Asked.{formed}
use Rattle.program_words.proofs.wishes.form_of.Goals as goal

pub returns : goal.returns
returns c = formed (rows_of (found_of c.args.matches.now)) c.flag_of.result _ c.form_by.result c.flag_of.ensures c.choice_of.ensures c.form_by.ensures
