use Rattle.script_answers.proofs.Longest.{longest}
use Rattle.script_answers.proofs.laws.runs_are_longest.Goals as goal

pub returns : goal.returns
returns c = longest
