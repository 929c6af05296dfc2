use Rattle.std.proofs.Common.{refl, ◌++◌}
use Rattle.program_desk.proofs.Telling.{goes_on_twice}
use Rattle.program_desk.proofs.explained.tell_named.Goals as goal

pub returns : goal.returns
returns g c =
    let shown = c.tell_name-named.ensures in (
      shown.0 ++ c.args.words.now,
      (shown.0, shown.1, refl),
      (goes_on_twice c.args.told.is_whole c.tell_name-named.result.is_whole c.tell_more.result.is_whole (g.E.Write.contents c.args.faults.now) (g.E.Write.contents c.tell_name-named.new.faults) (g.E.Write.contents c.tell_more.new.faults) (shown.0) (c.args.words.now) c.tell_name-named.ensures.2 c.tell_more.ensures),
    )
