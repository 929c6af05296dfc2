use Rattle.std.proofs.Common.{◌∙◌, sym, ap}
use Rattle.desk_ops.specs.OpSet.{OpSet, with_all}
use Rattle.desk_held.proofs.Joins.{none_held}
use Rattle.desk_replica.proofs.Replica.begin.Goals as goal

pub returns-clause-begun : goal.returns-clause-begun
returns-clause-begun g c = λ done. c.lay_out.ensures.whole done ∙ c.in-Some.ensures.ops ∙ ap (λ (h : OpSet). with_all h c.args.ops.now) (sym (none_held c.args.self.now.ops c.requires.none))
