use Rattle.test_replica.specs.Asked.{answer_of, call_of}
use Rattle.test_replica.proofs.Steps.{runs-more}
use Rattle.test_replica.proofs.runs.all_answered.Goals as goal

pub loop-call-preserved : goal.loop-call-preserved
loop-call-preserved g c =
    runs-more (call_of c.args.other.now.ops) answer_of c.args.replica.now c.loop-call.replica c.answered-answer.new.replica c.args.calls.now c.loop-call.call-index _ c.loop-call.answers.items c.push.new.self.items
    c.answered-answer.result c.loop-call-test.true c.in-Ok.ensures.items c.loop-call.invariant c.answered-answer.ensures
