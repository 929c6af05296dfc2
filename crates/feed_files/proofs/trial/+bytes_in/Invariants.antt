use Rattle.std.proofs.Common.{length}
use Rattle.feed_files.proofs.trial.+bytes_in.Given as goal

-- the changes that are left
abbrev pub decreases-bytes_in : goal.decreases-bytes_in
decreases-bytes_in g l = length l.changes.now
