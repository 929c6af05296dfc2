use Rattle.std.proofs.Common.{rules}
use Rattle.feed_files.proofs.Counts.{counts_none}
use Rattle.feed_files.proofs.trial.TrialFilesFiles.read.Goals as goal

pub returns-in-Some-clause-counted : goal.returns-in-Some-clause-counted
returns-in-Some-clause-counted g c = counts_none _ c.copied.result _ _ c.copied.ensures.other (search rules)

pub returns-in-Some-clause-given : goal.returns-in-Some-clause-given
returns-in-Some-clause-given g c = search rules steps 2000000

pub returns-in-None-clause-given : goal.returns-in-None-clause-given
returns-in-None-clause-given g c = search rules steps 2000000
