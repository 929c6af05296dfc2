use Rattle.script_answers.specs.declared.copy.Place.TheVariants.{Run}
use Rattle.script_answers.proofs.Spelling.{spelled, read_whole}
use Rattle.script_answers.proofs.laws.copy_is_its_spelling.Goals as goal

pub returns : goal.returns
returns c cs symbols = (λ h. spelled Run cs symbols h, λ h. read_whole cs symbols h)
