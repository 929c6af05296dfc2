use Rattle.desk_codec.specs.ItemReading.{GivesItems}
use Rattle.desk_codec.proofs.reader.read_whole.Given as goal
use Rattle.std.proofs.Common.{length}

-- what is read, and what is left
abbrev pub invariant-loop-form : goal.invariant-loop-form
invariant-loop-form g l = GivesItems l.form l.bytes l.fn.ops l.ops l.rest

abbrev pub decreases-loop-form : goal.decreases-loop-form
decreases-loop-form g l = length l.rest
