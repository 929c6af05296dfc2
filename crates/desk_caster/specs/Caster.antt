-- The caster, which reads a ribbon from its last row to the first.
use Rattle.std.specs.Prelude.{ℕ, suc, Bool, cond, if◌then◌else◌, ◌||◌, is_some, ℤ, pos, ◌+ℤ◌, List, [], ◌∷◌, Option}
use Rattle.std.specs.Prelude.{Some, None, Result, Ok, Err}
use Rattle.desk_units.specs.Widths.{units_width}
use Rattle.desk_units.specs.WedgeSum.{sum_at, widening}
use Rattle.desk_wedge.specs.Wedge.{WedgeValues, units_of_row}
use Rattle.desk_case.specs.Case.{CaseValues, symbol_at, is_fill}
use Rattle.desk_case.specs.Names.{same_cell}
use Rattle.desk_signals.specs.declared.Cell.{Cell}
use Rattle.desk_signals.specs.declared.RibbonRow.{RibbonRow}
use Rattle.desk_signals.specs.declared.RibbonRow.TheVariants as row
use Rattle.desk_caster.specs.declared.CastMatrix.{CastMatrix}
use Rattle.desk_caster.specs.declared.CastFault.{CastFault}
use Rattle.desk_caster.specs.declared.CastFault.TheVariants.{NoWedges, NoMatrix, NotSentOut}

-- a line that was sent out: its positions, its matrices in reading order, and their width
pub record Line : Type 0 where
  pub coarse : ℕ
  pub fine : ℕ
  pub matrices : List CastMatrix
  pub total : ℤ

-- the case has a symbol, its space or a fill there
abbrev pub has_matrix : CaseValues → Cell → Bool
has_matrix case cell = is_some (symbol_at case cell) || (same_cell case.space cell || is_fill case cell)

-- the width of the matrices of a row of the case, in atoms
abbrev pub row_width : WedgeValues → ℕ → ℕ
row_width wedge row = units_width (units_of_row wedge row) wedge.set_q wedge.pica

-- the width of a matrix that is cast at a wedge sum
abbrev pub cast_width : WedgeValues → ℕ → Cell → Bool → ℤ
cast_width wedge sum cell s = pos (row_width wedge cell.row) +ℤ cond s (widening sum) (pos 0)

abbrev pub cast_matrix : CaseValues → WedgeValues → ℕ → Cell → Bool → CastMatrix
cast_matrix case wedge sum cell s =
    record { cell = cell; s = s; symbol = symbol_at case cell; width = cast_width wedge sum cell s }

abbrev pub total_width : List CastMatrix → ℤ
total_width [] = pos 0
total_width (matrix ∷ matrices) = matrix.width +ℤ total_width matrices

-- a line in progress: the place of its Coarse row, its positions, and its matrices in reading order
pub record Begun : Type 0 where
  pub started : ℕ
  pub coarse : ℕ
  pub fine : ℕ
  pub matrices : List CastMatrix

-- the caster: the position of the fine wedge, the line in progress, and the lines sent out in reading order
pub record State : Type 0 where
  pub fine : Option ℕ
  pub line : Option Begun
  pub sent : List Line

-- the line as it is sent out
abbrev pub sent_out : Begun → Line
sent_out line = record {
  coarse = line.coarse;
  fine = line.fine;
  matrices = line.matrices;
  total = total_width
      line.matrices;
}

-- The lines sent out, with the line in progress before them: reading goes backwards, so what comes later stands first.
abbrev pub all_sent : Option Begun → List Line → List Line
all_sent None sent = sent
all_sent (Some line) sent = sent_out line ∷ sent

-- Coarse starts a line, where the fine wedge has a position and no line is in progress.
abbrev pub start_line : ℕ → ℕ → Option ℕ → Option Begun → List Line → Result State CastFault
start_line place coarse None line sent = Err (NoWedges place)
start_line place coarse (Some fine) (Some line) sent = Err (NotSentOut line.started)
start_line place coarse (Some fine) None sent =
    Ok (record {
      fine = Some fine;
      line = Some
          (record { started = place; coarse = coarse; fine = fine; matrices = [] });
      sent = sent;
    })

-- A matrix is cast before the others of the line in progress.
abbrev pub cast_onto : CaseValues → WedgeValues → ℕ → Cell → Bool → Option ℕ → Option Begun → List Line
    → Result State CastFault
cast_onto case wedge place cell s fine None sent = Err (NoWedges place)
cast_onto case wedge place cell s fine (Some line) sent =
    if has_matrix case cell
    then Ok (record {
      fine = fine;
      line = Some
          (record line {
            matrices = cast_matrix case wedge (sum_at line.coarse line.fine) cell s
                ∷ line.matrices;
          });
      sent = sent;
    })
    else Err (NoMatrix place)

-- what the caster does at the row of this place
abbrev pub cast_row : CaseValues → WedgeValues → ℕ → RibbonRow → State → Result State CastFault
cast_row case wedge place (row.FineOut fine) state =
    Ok (record { fine = Some fine; line = None; sent = all_sent state.line state.sent })
cast_row case wedge place (row.Coarse coarse) state = start_line place coarse state.fine state.line state.sent
cast_row case wedge place (row.Cell column n s) state =
    cast_onto case wedge place (record { column = column; row = n }) s state.fine state.line state.sent

infixl 10 ◌>>=◌
abbrev pub ◌>>=◌ : {A B : Type 0} → Result A CastFault → (A → Result B CastFault) → Result B CastFault
(Ok x) >>= f = f x
(Err e) >>= f = Err e

-- the caster before its first row
abbrev pub idle : State
idle = record { fine = None; line = None; sent = [] }

-- The caster after these rows, the first of which stands at this place: it reads the last row first.
abbrev pub cast_rows : CaseValues → WedgeValues → ℕ → List RibbonRow → Result State CastFault
cast_rows case wedge place [] = Ok idle
cast_rows case wedge place (row ∷ rows) = cast_rows case wedge (suc place) rows >>= cast_row case wedge place row

-- At the end no line may be in progress.
abbrev pub finish : Option Begun → List Line → Result (List Line) CastFault
finish None sent = Ok sent
finish (Some line) sent = Err (NotSentOut line.started)

-- the lines that a ribbon casts, or the first fault that the caster meets
abbrev pub cast : CaseValues → WedgeValues → List RibbonRow → Result (List Line) CastFault
cast case wedge rows = cast_rows case wedge 0 rows >>= (λ state. finish state.line state.sent)
