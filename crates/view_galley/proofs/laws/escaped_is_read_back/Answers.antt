use Rattle.view_galley.proofs.Reading.{read_back}
use Rattle.view_galley.proofs.laws.escaped_is_read_back.Goals as goal

pub returns : goal.returns
returns c = read_back
