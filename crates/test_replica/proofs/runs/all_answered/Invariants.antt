use Rattle.std.proofs.Common.{map, take}
use Rattle.desk_replica.specs.Calls.{Runs}
use Rattle.test_replica.specs.Asked.{answer_of, call_of}
use Rattle.test_replica.proofs.runs.all_answered.Given as goal

abbrev pub invariant-loop-call : goal.invariant-loop-call
invariant-loop-call g l = Runs l.fn.replica (map (call_of l.other.ops) (take l.call-index l.calls)) (map answer_of l.answers.items) l.replica
