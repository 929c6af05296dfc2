use Rattle.std.proofs.Common.{rules}
use Rattle.feed_files.proofs.trial.TrialFiles.put.Goals as goal

pub returns-clause-ok : goal.returns-clause-ok
returns-clause-ok g c = (c.in_ok-name.name, c.extend_from_slice.new.self, search rules, search rules, search rules)
