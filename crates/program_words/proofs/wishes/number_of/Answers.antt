use Rattle.std.proofs.Common.{rules}
use Rattle.std.specs.Str.Parse.{ParsesUnsigned, ExplainsUnsignedError, HasUnsignedDigitsIfOk}
use Rattle.clap.specs.Words.{found_of, one_text, rows_of}
use Rattle.clap.proofs.WalkLemmas.{one_text-rows}
use Rattle.program_words.proofs.Asked.{number}
use Rattle.program_words.proofs.wishes.number_of.Goals as goal

pub returns : goal.returns
returns c =
    number _ (λ bs r. ParsesUnsigned 64 10 bs r × ExplainsUnsignedError 10 bs r × HasUnsignedDigitsIfOk bs r) (λ t r h. h.0) c.args.name.now (rows_of (found_of c.args.matches.now)) (one_text (found_of c.args.matches.now) c.args.name.now)
    c.get_one.result (λ n is. search rules) (one_text-rows (found_of c.args.matches.now) c.args.name.now) c.get_one.ensures.none c.get_one.ensures.value
