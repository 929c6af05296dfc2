use Rattle.std.proofs.Common.{map}
use Rattle.test_replica.specs.Asked.{answer_of}
use Rattle.test_replica.proofs.Steps.{same-answers}
use Rattle.test_replica.proofs.runs.both_answered.Goals as goal

pub returns : goal.returns
returns g c = record {
  same = same-answers c.one_run.ensures c.args.one.now c.args.other.now c.all_answered.new.replica c.all_answered-2.new.replica c.args.read.now.ops c.args.beside.now.ops c.args.calls.now
      (map answer_of c.in_ok-answers.answers.items) (map answer_of c.in_ok-others.others.items) c.requires.site c.requires.ops c.requires.read c.in_ok-answers.ensures c.in_ok-others.ensures;
}
