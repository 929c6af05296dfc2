use Rattle.std.proofs.Common.{◌++◌}
use Rattle.std.specs.Prelude.{codes}
use Rattle.std.specs.Fmt.{decimal}
use Rattle.program_desk.proofs.Telling.{goes_on_twice}
use Rattle.program_desk.proofs.explained.tell_limit.Goals as goal

pub returns : goal.returns
returns g c = (goes_on_twice c.args.told.is_whole c.tell_more-begun.result.is_whole c.tell_more.result.is_whole (g.E.Write.contents c.args.faults.now) (g.E.Write.contents c.tell_more-begun.new.faults) (g.E.Write.contents c.tell_more.new.faults) (codes "standard input: it has more than ") (decimal c.args.most ++ codes " bytes\n") c.tell_more-begun.ensures (goes_on_twice c.tell_more-begun.result.is_whole c.tell_number-counted.result.is_whole c.tell_more.result.is_whole (g.E.Write.contents c.tell_more-begun.new.faults) (g.E.Write.contents c.tell_number-counted.new.faults) (g.E.Write.contents c.tell_more.new.faults) (decimal c.args.most) (codes " bytes\n") c.tell_number-counted.ensures c.tell_more.ensures))
