use Rattle.std.proofs.Common.{arith}
use Rattle.std.proofs.lemmas.Grind.{common_steps}
use Rattle.list_pages.proofs.groups.sum_replaced.Goals as goal

pub returns-then-g-len-clause-replaced : goal.returns-then-g-len-clause-replaced
returns-then-g-len-clause-replaced g c = grind (arith, common_steps)
