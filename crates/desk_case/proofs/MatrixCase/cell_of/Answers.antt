use Rattle.std.proofs.Common.{◌∙◌}
use Rattle.desk_case.proofs.Grids.{cells_reported}
use Rattle.desk_case.proofs.MatrixCase.cell_of.Goals as goal

pub returns-clause-back : goal.returns-clause-back
returns-clause-back c =
    rw (← c.self.view_is) (cells_reported _ c.self.invariant.0 c.args.symbol c.copied.result (c.copied.ensures ∙ c.get.ensures.value ∙ c.self.invariant.1.found c.args.symbol))
