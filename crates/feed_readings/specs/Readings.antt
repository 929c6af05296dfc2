-- The open readings of four lists: the longest rows of neighbouring open pieces.
use Rattle.std.specs.Prelude.{Bool, if◌then◌else◌, List, [], ◌∷◌, ◌++◌, Option, Some, None}
use Rattle.feed_readings.specs.declared.reading.Reading.{Reading}
use Rattle.feed_readings.specs.declared.reading.Shown.{Shown}
use Rattle.feed_readings.specs.Pieces.{is_open, pieces}

-- a row that goes on with a piece, or begins with it
abbrev pub joined : Option Reading → Reading → Reading
joined None piece = piece
joined (Some row) piece = record { from = row.from; to = piece.to }

-- the row behind a piece: it goes on through an open one alone
abbrev pub row_behind : Option Reading → Reading → Bool → Option Reading
row_behind row piece opens = if opens then Some (joined row piece) else None

-- a row that is over, if there is one
abbrev pub of_row : Option Reading → List Reading
of_row None = []
of_row (Some row) = row ∷ []

-- the row that a piece ends
abbrev pub ended : Option Reading → Bool → List Reading
ended row opens = if opens then [] else of_row row

-- the rows of open pieces, of which one may have begun
abbrev pub rows : (Reading → Bool) → Option Reading → List Reading → List Reading
rows test row [] = of_row row
rows test row (piece ∷ list) = ended row (test piece) ++ rows test (row_behind row piece (test piece)) list

abbrev pub open_readings : List Shown → List Shown → List Shown → List Shown → List Reading
open_readings base one other both = rows (is_open base one other both) None (pieces base one other both)
