use Rattle.std.proofs.Common.{◌++◌}
use Rattle.std.specs.Prelude.{codes}
use Rattle.std.specs.Fmt.{decimal}
use Rattle.program_desk.proofs.Telling.{goes_on_twice}
use Rattle.program_desk.proofs.explained.tell_numbers.Goals as goal

pub returns : goal.returns
returns g c =
    let shown = c.tell_name-named.ensures in
    let first = c.args.words.0.now ++ (decimal c.args.numbers.0 ++ codes ", and ") in
    let second = c.args.words.1.now ++ (decimal c.args.numbers.1 ++ codes "\n") in (
      shown.0,
      shown.1,
      goes_on_twice c.args.told.is_whole c.tell_count-begun.result.is_whole c.tell_count.result.is_whole (g.E.Write.contents c.args.faults.now) (g.E.Write.contents c.tell_count-begun.new.faults) (g.E.Write.contents c.tell_count.new.faults) first (shown.0 ++ second) c.tell_count-begun.ensures
          (goes_on_twice c.tell_count-begun.result.is_whole c.tell_name-named.result.is_whole c.tell_count.result.is_whole (g.E.Write.contents c.tell_count-begun.new.faults) (g.E.Write.contents c.tell_name-named.new.faults) (g.E.Write.contents c.tell_count.new.faults) shown.0 second shown.2 c.tell_count.ensures),
    )
