use Rattle.desk_replica.proofs.Orders.{one_order_of_sets}
use Rattle.desk_replica.proofs.laws.one_order_of_sets.Goals as goal

pub returns : goal.returns
returns c = one_order_of_sets
