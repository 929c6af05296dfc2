use Rattle.std.proofs.Common.{arith}
use Rattle.list_pages.proofs.list.Pages.named.Goals as goal

pub returns-clause-few : goal.returns-clause-few
returns-clause-few g c = rw (← c.self.view_is) (omega (arith, c.self.invariant.0.is_len, c.self.invariant.0.fits))
