use Rattle.std.proofs.Common.{◌++◌}
use Rattle.std.specs.Fmt.{decimal}
use Rattle.program_desk.proofs.Telling.{goes_on_twice}
use Rattle.program_desk.proofs.headlines.tell_count.Goals as goal

pub returns : goal.returns
returns g c = goes_on_twice c.args.told.is_whole c.tell_words-begun.result.is_whole c.tell_words.result.is_whole (g.E.Write.contents c.args.faults.now) (g.E.Write.contents c.tell_words-begun.new.faults) (g.E.Write.contents c.tell_words.new.faults) c.args.before.now (decimal c.args.number ++ c.args.after.now) c.tell_words-begun.ensures
    (goes_on_twice c.tell_words-begun.result.is_whole c.tell_number-counted.result.is_whole c.tell_words.result.is_whole (g.E.Write.contents c.tell_words-begun.new.faults) (g.E.Write.contents c.tell_number-counted.new.faults) (g.E.Write.contents c.tell_words.new.faults) (decimal c.args.number) c.args.after.now c.tell_number-counted.ensures c.tell_words.ensures)
