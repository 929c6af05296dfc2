use Rattle.std.proofs.Common.{rules}
use Rattle.feed_files.proofs.trial.TrialFiles.count_failure.Goals as goal

pub returns-clause-risen : goal.returns-clause-risen
returns-clause-risen g c = search rules steps 2000000

pub returns-clause-same : goal.returns-clause-same
returns-clause-same g c = search rules steps 2000000
