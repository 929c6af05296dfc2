use Rattle.text_copy.proofs.Again.{plain_read_again}
use Rattle.text_copy.proofs.laws.plain_is_read_again.Goals as goal

pub returns : goal.returns
returns c = plain_read_again
