use Rattle.view_galley.proofs.Lines.{rows_are_of_galley as law}
use Rattle.view_galley.proofs.laws.rows_are_of_galley.Goals as goal

pub returns : goal.returns
returns c = law
