use Rattle.desk_codec.proofs.OrderLaw.{order_of_bytes}
use Rattle.desk_codec.proofs.laws.order_goes_by_bytes.Goals as goal

pub returns : goal.returns
returns c = order_of_bytes
