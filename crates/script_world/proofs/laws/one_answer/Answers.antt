use Rattle.script_world.proofs.OneAnswer.{one_answer}
use Rattle.script_world.proofs.laws.one_answer.Goals as goal

pub returns : goal.returns
returns c = one_answer
