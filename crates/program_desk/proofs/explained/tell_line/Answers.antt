use Rattle.std.proofs.Common.{refl, ◌++◌}
use Rattle.std.specs.Prelude.{codes}
use Rattle.std.specs.Fmt.{decimal}
use Rattle.program_desk.proofs.Telling.{goes_on_twice}
use Rattle.program_desk.proofs.explained.tell_line.Goals as goal

pub returns : goal.returns
returns g c =
    let shown = c.tell_name-named.ensures in (
      codes "standard input: the answer to line " ++ (decimal c.args.number ++ (codes " says why; " ++ (shown.0 ++ (codes " is as it was\n")))),
      (shown.0, shown.1, refl),
      (goes_on_twice c.args.told.is_whole c.tell_more-begun.result.is_whole c.tell_more.result.is_whole (g.E.Write.contents c.args.faults.now) (g.E.Write.contents c.tell_more-begun.new.faults) (g.E.Write.contents c.tell_more.new.faults) (codes "standard input: the answer to line ") (decimal c.args.number ++ (codes " says why; " ++ (shown.0 ++ (codes " is as it was\n")))) c.tell_more-begun.ensures (goes_on_twice c.tell_more-begun.result.is_whole c.tell_number-counted.result.is_whole c.tell_more.result.is_whole (g.E.Write.contents c.tell_more-begun.new.faults) (g.E.Write.contents c.tell_number-counted.new.faults) (g.E.Write.contents c.tell_more.new.faults) (decimal c.args.number) (codes " says why; " ++ (shown.0 ++ (codes " is as it was\n"))) c.tell_number-counted.ensures (goes_on_twice c.tell_number-counted.result.is_whole c.tell_more-why.result.is_whole c.tell_more.result.is_whole (g.E.Write.contents c.tell_number-counted.new.faults) (g.E.Write.contents c.tell_more-why.new.faults) (g.E.Write.contents c.tell_more.new.faults) (codes " says why; ") (shown.0 ++ codes " is as it was\n") c.tell_more-why.ensures (goes_on_twice c.tell_more-why.result.is_whole c.tell_name-named.result.is_whole c.tell_more.result.is_whole (g.E.Write.contents c.tell_more-why.new.faults) (g.E.Write.contents c.tell_name-named.new.faults) (g.E.Write.contents c.tell_more.new.faults) (shown.0) (codes " is as it was\n") c.tell_name-named.ensures.2 c.tell_more.ensures)))),
    )
