use Rattle.std.proofs.Common.{[], subst, sym}
use Rattle.std.specs.Prelude.{codes}
use Rattle.program_desk.specs.Told.{Tells}
use Rattle.program_desk.proofs.Explaining.{nothing}
use Rattle.program_desk.proofs.Telling.{goes_on_twice}
use Rattle.program_desk.proofs.rooms.refused_room.Goals as goal

pub returns-clause-told : goal.returns-clause-told
returns-clause-told g c =
    let shown = c.tell_name-named.ensures in
    let quiet = g.E.Write.contents c.args.faults.now in
    let begun = c.tell_more-head.ensures quiet [] (subst (λ b. Tells b quiet quiet []) (sym c.silent.ensures) (nothing quiet)) in
    let rest = goes_on_twice c.tell_more-head.result.is_whole c.tell_name-named.result.is_whole c.tell_more.result.is_whole (g.E.Write.contents c.tell_more-head.new.faults) (g.E.Write.contents c.tell_name-named.new.faults) (g.E.Write.contents c.tell_more.new.faults) shown.0 (codes "\n") shown.2 c.tell_more.ensures in
    (shown.0, shown.1, rest quiet (codes "copydesk: input refused\ncopydesk.toml: ") begun)
