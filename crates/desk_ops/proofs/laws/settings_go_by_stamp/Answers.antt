use Rattle.desk_ops.proofs.Values.{is_setting}
use Rattle.desk_ops.proofs.laws.settings_go_by_stamp.Goals as goal

pub returns : goal.returns
returns c = λ h key. is_setting h key
