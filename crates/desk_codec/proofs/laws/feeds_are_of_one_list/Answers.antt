use Rattle.desk_codec.proofs.Grammar.{one_list}
use Rattle.desk_codec.proofs.laws.feeds_are_of_one_list.Goals as goal

pub returns : goal.returns
returns c = one_list
