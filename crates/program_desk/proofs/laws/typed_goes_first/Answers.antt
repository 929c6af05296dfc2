use Rattle.program_desk.proofs.Typed.{none_is_typed}
use Rattle.program_desk.proofs.laws.typed_goes_first.Goals as goal

pub returns : goal.returns
returns c = none_is_typed
