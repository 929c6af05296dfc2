use Rattle.view_punch.proofs.CastOrder.{cast_in_order}
use Rattle.view_punch.proofs.laws.ribbons_are_cast_in_order.Goals as goal

pub returns : goal.returns
returns c = cast_in_order
