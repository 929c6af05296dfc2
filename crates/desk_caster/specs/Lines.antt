-- Lines as they are to be cast, and what a reader sees of lines that were.
use Rattle.std.specs.Prelude.{◌≡◌, Bool, true, false, List, [], ◌∷◌, ◌++◌, map, Option, Some, None}
use Rattle.desk_ops.specs.declared.op.Symbol.{Symbol}
use Rattle.desk_ops.specs.Op.{space}
use Rattle.desk_units.specs.WedgeSum.{sum_at}
use Rattle.desk_wedge.specs.Wedge.{WedgeValues}
use Rattle.desk_case.specs.Case.{CaseValues}
use Rattle.desk_ribbon.specs.declared.Punch.{Punch}
use Rattle.desk_ribbon.specs.declared.PunchLine.{PunchLine}
use Rattle.desk_caster.specs.declared.CastMatrix.{CastMatrix}
use Rattle.desk_caster.specs.Caster.{Line, cast_matrix, total_width, has_matrix}

-- The case has the matrices.
abbrev pub HasAll : CaseValues → List Punch → Type 0
HasAll case [] = Unit {0}
HasAll case (punch ∷ punches) = (has_matrix case punch.cell ≡ true) × HasAll case punches

abbrev pub LinesHaveAll : {A : Type 0} → CaseValues → List (PunchLine A) → Type 0
LinesHaveAll case [] = Unit {0}
LinesHaveAll case (line ∷ lines) = HasAll case line.matrices × LinesHaveAll case lines

-- the line as it is to be cast: its matrices at its positions
abbrev pub line_cast : {A : Type 0} → CaseValues → WedgeValues → PunchLine A → Line
line_cast case wedge line =
    let matrices = map (λ punch. cast_matrix case wedge (sum_at line.coarse line.fine) punch.cell punch.s)
    line.matrices in
    record { coarse = line.coarse; fine = line.fine; matrices = matrices; total = total_width matrices }

-- what a matrix means to a reader: one with S is a Roman space, one without S that has a symbol is that symbol
abbrev pub meaning : Bool → Option Symbol → List Symbol
meaning true symbol = space ∷ []
meaning false (Some symbol) = symbol ∷ []
meaning false None = []

-- the text of a cast line
abbrev pub reading : List CastMatrix → List Symbol
reading [] = []
reading (matrix ∷ matrices) = meaning matrix.s matrix.symbol ++ reading matrices
