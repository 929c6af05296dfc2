use Rattle.view_galley.proofs.Lines.{lines_are_of_job as law}
use Rattle.view_galley.proofs.laws.lines_are_of_job.Goals as goal

pub returns : goal.returns
returns c = law
