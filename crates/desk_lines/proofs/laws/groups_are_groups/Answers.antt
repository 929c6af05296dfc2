use Rattle.desk_lines.proofs.GroupLaws.{groups_are_groups}
use Rattle.desk_lines.proofs.laws.groups_are_groups.Goals as goal

pub returns : goal.returns
returns c = groups_are_groups
