use Rattle.std.proofs.Common.{◌++◌}
use Rattle.std.specs.Prelude.{codes}
use Rattle.std.specs.Fmt.{decimal}
use Rattle.program_desk.proofs.Telling.{goes_on_twice}
use Rattle.program_desk.proofs.explained.tell_counters.Goals as goal

pub returns : goal.returns
returns g c = (goes_on_twice c.args.told.is_whole c.tell_more-of.result.is_whole c.tell_more.result.is_whole (g.E.Write.contents c.args.faults.now) (g.E.Write.contents c.tell_more-of.new.faults) (g.E.Write.contents c.tell_more.new.faults) (codes ": site ") (decimal c.args.site ++ (codes " made " ++ (decimal c.args.made ++ (codes " here, and it holds " ++ (decimal c.args.held ++ (codes "\n")))))) c.tell_more-of.ensures (goes_on_twice c.tell_more-of.result.is_whole c.tell_number-at.result.is_whole c.tell_more.result.is_whole (g.E.Write.contents c.tell_more-of.new.faults) (g.E.Write.contents c.tell_number-at.new.faults) (g.E.Write.contents c.tell_more.new.faults) (decimal c.args.site) (codes " made " ++ (decimal c.args.made ++ (codes " here, and it holds " ++ (decimal c.args.held ++ (codes "\n"))))) c.tell_number-at.ensures (goes_on_twice c.tell_number-at.result.is_whole c.tell_more-by.result.is_whole c.tell_more.result.is_whole (g.E.Write.contents c.tell_number-at.new.faults) (g.E.Write.contents c.tell_more-by.new.faults) (g.E.Write.contents c.tell_more.new.faults) (codes " made ") (decimal c.args.made ++ (codes " here, and it holds " ++ (decimal c.args.held ++ (codes "\n")))) c.tell_more-by.ensures (goes_on_twice c.tell_more-by.result.is_whole c.tell_number-here.result.is_whole c.tell_more.result.is_whole (g.E.Write.contents c.tell_more-by.new.faults) (g.E.Write.contents c.tell_number-here.new.faults) (g.E.Write.contents c.tell_more.new.faults) (decimal c.args.made) (codes " here, and it holds " ++ (decimal c.args.held ++ (codes "\n"))) c.tell_number-here.ensures (goes_on_twice c.tell_number-here.result.is_whole c.tell_more-and.result.is_whole c.tell_more.result.is_whole (g.E.Write.contents c.tell_number-here.new.faults) (g.E.Write.contents c.tell_more-and.new.faults) (g.E.Write.contents c.tell_more.new.faults) (codes " here, and it holds ") (decimal c.args.held ++ codes "\n") c.tell_more-and.ensures (goes_on_twice c.tell_more-and.result.is_whole c.tell_number-there.result.is_whole c.tell_more.result.is_whole (g.E.Write.contents c.tell_more-and.new.faults) (g.E.Write.contents c.tell_number-there.new.faults) (g.E.Write.contents c.tell_more.new.faults) (decimal c.args.held) (codes "\n") c.tell_number-there.ensures c.tell_more.ensures))))))
