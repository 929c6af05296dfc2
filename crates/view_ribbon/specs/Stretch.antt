-- Which rows of a ribbon are those of lines.
use Rattle.std.specs.Prelude.{ℕ, suc, ◌+◌, ◌-◌, nat_lt, if◌then◌else◌, List, [], ◌∷◌, take, drop}
use Rattle.std.specs.Prelude.{Option, Some, None}
use Rattle.desk_signals.specs.declared.RibbonRow.{RibbonRow}
use Rattle.desk_signals.specs.declared.RibbonRow.TheVariants as row
use Rattle.view_ribbon.specs.declared.extent.Lines.{Lines}

-- the line of a row, from 1, where so many Coarse rows come before it: a FineOut row is of that number, and others are
-- of the next
abbrev pub line_of : ℕ → RibbonRow → ℕ
line_of before (row.Cell column n s) = before + 1
line_of before (row.Coarse position) = before + 1
line_of before (row.FineOut position) = before

-- how many Coarse rows come before the row behind it
abbrev pub coarse_through : ℕ → RibbonRow → ℕ
coarse_through before (row.Cell column n s) = before
coarse_through before (row.Coarse position) = before + 1
coarse_through before (row.FineOut position) = before

-- how many rows come before the first one of a line behind the last, where so many Coarse rows come before them
abbrev pub front_from : (last before : ℕ) → List RibbonRow → ℕ
front_from last before [] = 0
front_from last before (row ∷ rows) = if nat_lt last (line_of before row) then 0
    else suc (front_from last (coarse_through before row) rows)

abbrev pub front : ℕ → List RibbonRow → ℕ
front last rows = front_from last 0 rows

-- how many rows come before those of lines
abbrev pub rows_before : Lines → List RibbonRow → ℕ
rows_before lines rows = front (lines.first - 1) (take (front lines.last rows) rows)

-- the place of the first row that is drawn: of all, or of those of lines
abbrev pub first_drawn : Option Lines → List RibbonRow → ℕ
first_drawn None rows = 0
first_drawn (Some lines) rows = rows_before lines rows

-- the rows that are drawn, in punched order
abbrev pub rows_drawn : Option Lines → List RibbonRow → List RibbonRow
rows_drawn None rows = rows
rows_drawn (Some lines) rows = drop (rows_before lines rows) (take (front lines.last rows) rows)
