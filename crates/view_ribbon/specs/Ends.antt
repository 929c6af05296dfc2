-- Where galleys end in the rows of a ribbon.
use Rattle.std.specs.Prelude.{ℕ, suc, Bool, true, false, List, [], ◌∷◌, if◌then◌else◌}
use Rattle.desk_signals.specs.declared.RibbonRow.{RibbonRow}
use Rattle.desk_signals.specs.declared.RibbonRow.TheVariants as row

-- How many lines each galley has that ends in these rows. So many lines of the first were met, and the row before is a
-- FineOut row or not. Each Coarse row starts a line.
abbrev pub ended_from : ℕ → Bool → List RibbonRow → List ℕ
ended_from lines is_out [] = []
ended_from lines is_out (row.FineOut fine ∷ rows) =
    if is_out then lines ∷ ended_from 0 true rows else ended_from lines true rows
ended_from lines is_out (row.Coarse coarse ∷ rows) = ended_from (suc lines) false rows
ended_from lines is_out (row.Cell column n s ∷ rows) = ended_from lines false rows

-- A galley ends where a FineOut row directly follows another, which is the head row of the next galley.
abbrev pub ended : List RibbonRow → List ℕ
ended rows = ended_from 0 false rows
