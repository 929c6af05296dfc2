use Rattle.std.proofs.Common.{◌++◌}
use Rattle.std.specs.Fmt.{decimal}
use Rattle.program_desk.proofs.Telling.{goes_on_twice}
use Rattle.program_desk.proofs.headlines.tell_two.Goals as goal

pub returns : goal.returns
returns g c = goes_on_twice c.args.told.is_whole c.tell_words-begun.result.is_whole c.tell_count.result.is_whole (g.E.Write.contents c.args.faults.now) (g.E.Write.contents c.tell_words-begun.new.faults) (g.E.Write.contents c.tell_count.new.faults) c.args.words.0.now (decimal c.args.number ++ (c.args.words.1.now ++ (decimal c.args.other ++ c.args.words.2.now))) c.tell_words-begun.ensures
    (goes_on_twice c.tell_words-begun.result.is_whole c.tell_number-counted.result.is_whole c.tell_count.result.is_whole (g.E.Write.contents c.tell_words-begun.new.faults) (g.E.Write.contents c.tell_number-counted.new.faults) (g.E.Write.contents c.tell_count.new.faults) (decimal c.args.number) (c.args.words.1.now ++ (decimal c.args.other ++ c.args.words.2.now)) c.tell_number-counted.ensures c.tell_count.ensures)
