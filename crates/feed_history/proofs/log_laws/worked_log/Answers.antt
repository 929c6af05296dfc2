use Rattle.feed_history.proofs.WorkedLines.{worked}
use Rattle.feed_history.proofs.log_laws.worked_log.Goals as goal

pub returns : goal.returns
returns c = worked
