use Rattle.view_ribbon.proofs.Ending.{galleys_end}
use Rattle.view_ribbon.proofs.laws.galleys_end.Goals as goal

pub returns : goal.returns
returns c = galleys_end
