-- What holds of the rows that are drawn of a ribbon that is cast.
use Rattle.std.specs.Prelude.{◌≡◌, ℕ, ◌≤◌, if◌then◌else◌, List, [], ◌∷◌, Some, Ok}
use Rattle.desk_signals.specs.declared.RibbonRow.{RibbonRow}
use Rattle.desk_case.specs.Case.{CaseValues}
use Rattle.desk_wedge.specs.Wedge.{WedgeValues}
use Rattle.desk_caster.specs.Caster.{Line, cast}
use Rattle.view_ribbon.specs.Extent.{is_shown}
use Rattle.view_ribbon.specs.Stretch.{coarse_through, line_of, rows_drawn}
use Rattle.view_ribbon.specs.declared.extent.Lines.{Lines}

-- the rows that are of lines, where so many Coarse rows come before them all
abbrev pub rows_of : Lines → ℕ → List RibbonRow → List RibbonRow
rows_of lines before [] = []
rows_of lines before (row ∷ rows) =
    if is_shown (Some lines) (line_of before row) then row ∷ rows_of lines (coarse_through before row) rows
    else rows_of lines (coarse_through before row) rows

-- these are drawn of a ribbon that is cast
abbrev pub RowsOfLinesAreDrawn : Type 0
RowsOfLinesAreDrawn = (case : CaseValues) (wedge : WedgeValues) (rows : List RibbonRow) (sent : List Line)
    (lines : Lines) → cast case wedge rows ≡ Ok sent → 1 ≤ lines.first
    → rows_drawn (Some lines) rows ≡ rows_of lines 0 rows
