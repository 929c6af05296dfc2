use Rattle.std.proofs.Common.{◌∙◌, ap}
use Rattle.desk_case.specs.Case.{symbol_in}
use Rattle.desk_case.proofs.Grids.{symbols_reported}
use Rattle.desk_case.proofs.MatrixCase.symbol_at.Goals as goal

pub returns-clause-back : goal.returns-clause-back
returns-clause-back c =
    rw (← c.self.view_is) (symbols_reported _ c.self.invariant.0 c.args.cell c.held.ensures.cell c.held.result
    (c.held.ensures.value ∙ ap (λ grid. symbol_in grid c.args.cell) c.as_slice.ensures.value))
