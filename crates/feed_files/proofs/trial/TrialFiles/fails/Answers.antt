use Rattle.std.proofs.Common.{rules}
use Rattle.feed_files.proofs.trial.TrialFiles.fails.Goals as goal

pub returns-clause-answer : goal.returns-clause-answer
returns-clause-answer g c = search rules steps 2000000
