use Rattle.std.proofs.Common.{arith}
use Rattle.std.proofs.lemmas.Grind.{common_steps}
use Rattle.list_pages.proofs.groups.sum_with.Goals as goal

pub returns-then-g-len-clause-more : goal.returns-then-g-len-clause-more
returns-then-g-len-clause-more g c = grind (arith, common_steps)
