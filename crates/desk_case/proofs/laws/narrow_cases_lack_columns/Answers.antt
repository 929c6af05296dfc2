use Rattle.desk_case.proofs.Narrow.{narrow}
use Rattle.desk_case.proofs.laws.narrow_cases_lack_columns.Goals as goal

pub returns : goal.returns
returns c = narrow
