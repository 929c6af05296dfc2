use Rattle.std.proofs.Common.{◌∙◌, ap}
use Rattle.desk_ops.specs.OpSet.{with_all}
use Rattle.desk_replica.proofs.Replica.join.Goals as goal

pub returns-clause-joined : goal.returns-clause-joined
returns-clause-joined g c = λ done. c.hold_anew.ensures.whole done ∙ c.in-Some.ensures.ops ∙ ap (λ s. with_all s.ops c.args.ops.now) c.self.view_is
