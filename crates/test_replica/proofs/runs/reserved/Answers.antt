use Rattle.std.proofs.Common.{refl}
use Rattle.test_replica.proofs.runs.reserved.Goals as goal

pub returns : goal.returns
returns g c = (c.reserve.result, refl, (c.reserve.ensures.site, c.reserve.ensures.ops))
