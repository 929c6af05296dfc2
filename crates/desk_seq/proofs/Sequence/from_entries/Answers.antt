use Rattle.desk_seq.proofs.Entries.{absent-before}
use Rattle.desk_seq.proofs.Sequence.from_entries.Goals as goal

pub put-requires-clause-absent : goal.put-requires-clause-absent
put-requires-clause-absent g c = rw c.loop-i.invariant.0 (absent-before c.args.list.now c.loop-i.i _ c.requires c.loop-i-test.true)
