use Rattle.script_answers.proofs.Bytes.{copy_read_again}
use Rattle.script_answers.proofs.laws.copy_is_read_again.Goals as goal

pub returns : goal.returns
returns c = copy_read_again
