use Rattle.text_copy.proofs.Again.{read_again}
use Rattle.text_copy.proofs.laws.text_is_read_again.Goals as goal

pub returns : goal.returns
returns c = read_again
