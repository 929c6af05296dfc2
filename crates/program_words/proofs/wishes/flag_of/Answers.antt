use Rattle.std.specs.Str.Parse.{ParsesBool}
use Rattle.clap.specs.Words.{found_of, one_text, rows_of}
use Rattle.clap.proofs.WalkLemmas.{one_text-rows}
use Rattle.program_words.proofs.Asked.{held_flag, no_flag}
use Rattle.program_words.proofs.wishes.flag_of.Goals as goal

pub returns-in-Some : goal.returns-in-Some
returns-in-Some c =
    held_flag _ (λ bs r. ParsesBool bs r) (λ t r h. h) c.args.name.now (rows_of (found_of c.args.matches.now)) (one_text (found_of c.args.matches.now) c.args.name.now)
    c.in-Some.flag c.get_one.result c.in-Some.is (one_text-rows (found_of c.args.matches.now) c.args.name.now) c.get_one.ensures.none c.get_one.ensures.value

pub returns-in-None : goal.returns-in-None
returns-in-None c =
    no_flag _ (λ bs r. ParsesBool bs r) (λ t r h. h) c.args.name.now (rows_of (found_of c.args.matches.now)) (one_text (found_of c.args.matches.now) c.args.name.now)
    c.get_one.result c.in-None.is (one_text-rows (found_of c.args.matches.now) c.args.name.now) c.get_one.ensures.value
