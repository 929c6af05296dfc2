use Rattle.view_galley.proofs.Lines.{faults_are_of_job as law}
use Rattle.view_galley.proofs.laws.faults_are_of_job.Goals as goal

pub returns : goal.returns
returns c = law
