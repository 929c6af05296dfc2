use Rattle.desk_job.proofs.Adding.{adding_step, adding_room}
use Rattle.desk_job.proofs.Parts.{widths_part, next_line}
use Rattle.desk_job.proofs.making.Making.add_groups.Goals as goal

pub add_line-requires-clause-widths : goal.add_line-requires-clause-widths
add_line-requires-clause-widths g c = widths_part c.args.terms.now _ _ _ _ _ c.requires.widths

pub add_line-requires-clause-can_add : goal.add_line-requires-clause-can_add
add_line-requires-clause-can_add g c =
    adding_room _ _ _ _ _ _ c.requires.can_add (next_line _ _ _ _ _ _ _ _ _ _ c.loop-i-test.true c.is_filled-filled.ensures c.loop-i.invariant)

pub loop-i-preserved : goal.loop-i-preserved
loop-i-preserved g c =
    adding_step _ _ _ _ _ _ _ (next_line _ _ _ _ _ _ _ _ _ _ c.loop-i-test.true c.is_filled-filled.ensures c.loop-i.invariant) c.in_ok-add_line.ensures.ok
