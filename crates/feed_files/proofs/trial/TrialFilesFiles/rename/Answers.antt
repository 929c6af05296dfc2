use Rattle.std.proofs.Common.{rules}
use Rattle.feed_files.proofs.Counts.{counts_none}
use Rattle.feed_files.proofs.trial.TrialFilesFiles.rename.Goals as goal

pub returns-clause-counted : goal.returns-clause-counted
returns-clause-counted g c = counts_none _ c.move_file.result _ _ c.move_file.ensures.device (search rules)
