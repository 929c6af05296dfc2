use Rattle.view_ribbon.proofs.Stretches.{those_of_lines}
use Rattle.view_ribbon.proofs.laws.rows_of_lines_are_drawn.Goals as goal

pub returns : goal.returns
returns c = those_of_lines
