use Rattle.desk_script.proofs.OneReply.{one_reply}
use Rattle.desk_script.proofs.laws.one_reply.Goals as goal

pub returns : goal.returns
returns c = one_reply
