use Rattle.std.proofs.Common.{rules}
use Rattle.feed_files.proofs.trial.copied.Goals as goal

pub returns-clause-within : goal.returns-clause-within
returns-clause-within g c = search rules steps 2000000
