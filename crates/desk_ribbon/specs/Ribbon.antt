-- The rows of lines, and the bytes of rows.
use Rattle.std.specs.Prelude.{ℕ, List, [], ◌∷◌, ◌++◌, length, map, codes}
use Rattle.std.specs.List.{flat_map}
use Rattle.std.specs.Int.{to_be_bytes, w32}
use Rattle.desk_signals.specs.declared.RibbonRow.{RibbonRow}
use Rattle.desk_signals.specs.declared.RibbonRow.TheVariants.{Cell, Coarse, FineOut}
use Rattle.desk_units.specs.WedgeSum.{fine_of, neutral}
use Rattle.desk_image.specs.Images.{image}
use Rattle.desk_ribbon.specs.declared.Punch.{Punch}
use Rattle.desk_ribbon.specs.declared.PunchLine.{PunchLine}

-- the row of a matrix
abbrev pub punch_row : Punch → RibbonRow
punch_row punch = Cell punch.cell.column punch.cell.row punch.s

-- the rows of a line: its matrices in reading order, then Coarse, then FineOut
abbrev pub line_rows : {A : Type 0} → PunchLine A → List RibbonRow
line_rows line = map punch_row line.matrices ++ (Coarse line.coarse ∷ FineOut line.fine ∷ [])

-- the row before the first line, which brings the fine wedge to neutral
abbrev pub head_row : RibbonRow
head_row = FineOut (fine_of neutral)

-- the rows of a ribbon: the head row, and then the rows of each line
abbrev pub ribbon_rows : {A : Type 0} → List (PunchLine A) → List RibbonRow
ribbon_rows lines = head_row ∷ flat_map line_rows lines

-- a row as bytes: its image
abbrev pub image_bytes : RibbonRow → List ℕ
image_bytes row = to_be_bytes w32 (image row)

-- the bytes of rows: MRB1, the number of rows, and the image of each
abbrev pub ribbon : List RibbonRow → List ℕ
ribbon rows = codes "MRB1" ++ (to_be_bytes w32 (length rows) ++ flat_map image_bytes rows)
