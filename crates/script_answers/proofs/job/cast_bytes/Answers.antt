use Rattle.script_answers.proofs.Casts.{one_reading}
use Rattle.script_answers.proofs.job.cast_bytes.Goals as goal

pub lines_in-requires-clause-whole : goal.lines_in-requires-clause-whole
lines_in-requires-clause-whole g c = rw c.deref.ensures.value (one_reading c.args.case.now c.args.wedge.now c.args.bytes.now c.in_ok-rows.rows.items c.requires c.in_ok-rows.ensures)
