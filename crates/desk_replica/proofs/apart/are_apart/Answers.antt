use Rattle.std.proofs.Common.{◌∙◌, sym}
use Rattle.std.proofs.lemmas.Bool.{not-true}
use Rattle.desk_replica.proofs.Unforked.{apart}
use Rattle.desk_replica.proofs.apart.are_apart.Goals as goal

pub returns-then-rise_by_stamp : goal.returns-then-rise_by_stamp
returns-then-rise_by_stamp g c = λ yes. apart c.args.held.now.ops c.args.ops.now (c.rise_by_stamp.ensures c.if-rise_by_stamp.true) (sym c.is_one_borne.ensures ∙ not-true c.is_one_borne.result yes)
