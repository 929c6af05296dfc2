-- The figures of a ribbon: its lines at the ends, its length, and how many matrices it has of each row of the case.
use Rattle.std.specs.Prelude.{ℕ, ◌+◌, ◌-◌, ◌*◌, ◌/◌, Bool, true, false, nat_lt, ◌==◌, ℤ, int_lt, List, [], ◌∷◌}
use Rattle.std.specs.Prelude.{◌++◌, codes, if◌then◌else◌, Option, Some, None}
use Rattle.std.specs.List.{count_by}
use Rattle.std.specs.Fmt.{decimal}
use Rattle.desk_ops.specs.declared.op.Symbol.{Symbol}
use Rattle.desk_units.specs.WedgeSum.{sum_at}
use Rattle.desk_units.specs.declared.Pica.{Pica}
use Rattle.desk_caster.specs.Caster.{Line}
use Rattle.desk_caster.specs.Lines.{meaning}
use Rattle.desk_caster.specs.declared.CastMatrix.{CastMatrix}
use Rattle.view_proof.specs.Parts.{right, tenths_text}
use Rattle.view_ribbon.specs.Lines.{head_text, longest_of, width_text}
use Rattle.view_ribbon.specs.declared.extent.Pitch.{Pitch}
use Rattle.view_ribbon.specs.declared.figures.Counted.{Counted}
use Rattle.view_ribbon.specs.declared.figures.Counted.TheVariants as counts

-- ---- lines at the ends

-- the number of the first line that is as wide as this, where so many stand before them
abbrev pub first_wide : ℤ → ℕ → List Line → Option ℕ
first_wide width before [] = None
first_wide width before (line ∷ lines) = if int_lt line.total width then first_wide width (before + 1) lines
    else Some (before + 1)

-- where it is, and how wide
abbrev pub widest_words : Pica → ℤ → Option ℕ → List ℕ
widest_words pica width None = codes "none"
widest_words pica width (Some number) = codes "line " ++ decimal number ++ codes ", "
    ++ (width_text pica width ++ codes " points")

-- the first line of the greatest width
unfoldable pub widest_text : Pica → List Line → List ℕ
widest_text pica lines = codes "\nwidest    "
    ++ (widest_words pica (longest_of lines) (first_wide (longest_of lines) 0 lines) ++ codes "\n")

abbrev pub line_sum : Line → ℕ
line_sum line = sum_at line.coarse line.fine

-- the least of a wedge sum and of those of lines
abbrev pub least_from : ℕ → List Line → ℕ
least_from sum [] = sum
least_from sum (line ∷ lines) = least_from (if nat_lt (line_sum line) sum then line_sum line else sum) lines

-- the number of the first line that has no greater wedge sum than this, where so many stand before them
abbrev pub first_tight : ℕ → ℕ → List Line → Option ℕ
first_tight sum before [] = None
first_tight sum before (line ∷ lines) = if nat_lt sum (line_sum line) then first_tight sum (before + 1) lines
    else Some (before + 1)

abbrev pub tightest_words : ℕ → Option ℕ → List ℕ
tightest_words sum None = codes "none"
tightest_words sum (Some number) = codes "line " ++ (decimal number ++ (codes ", wedge sum " ++ decimal sum))

-- the least of their wedge sums, the greatest of which is 240
abbrev pub least_of : List Line → ℕ
least_of lines = least_from 240 lines

-- the first line of the least wedge sum
unfoldable pub tightest_text : List Line → List ℕ
tightest_text lines = codes "tightest  " ++ (tightest_words (least_of lines) (first_tight (least_of lines) 0 lines)
    ++ codes "\n")

-- ---- length

-- what is under a way of a row, and 1 where that is nothing
abbrev pub under_of : Pitch → ℕ
under_of pitch = if pitch.under == 0 then 1 else pitch.under

-- the length of so many rows in tenths of an inch, rounded up
abbrev pub tenths_of : ℕ → Pitch → ℕ
tenths_of rows pitch = (rows * pitch.over * 10 + (under_of pitch - 1)) / under_of pitch

abbrev pub pitch_text : Pitch → List ℕ
pitch_text pitch = codes " inches, " ++ (decimal pitch.over ++ (codes "/" ++ (decimal pitch.under
    ++ codes " inch a row\n")))

-- the length of so many rows, and the way of each
unfoldable pub length_text : ℕ → Pitch → List ℕ
length_text rows pitch = codes "length    " ++ (tenths_text (tenths_of rows pitch) ++ pitch_text pitch)

-- ---- matrices

-- nothing is meant
abbrev pub is_blank : List Symbol → Bool
is_blank [] = true
is_blank (s ∷ symbols) = false

-- a matrix is counted: each; or each that means nothing; or each of this row of the case
abbrev pub is_counted : Counted → CastMatrix → Bool
is_counted counts.All matrix = true
is_counted counts.Blank matrix = is_blank (meaning matrix.s matrix.symbol)
is_counted (counts.Row number) matrix = matrix.cell.row == number

-- how many matrices of all lines are
abbrev pub count_of : Counted → List Line → ℕ
count_of what [] = 0
count_of what (line ∷ lines) = count_by (is_counted what) line.matrices + count_of what lines

unfoldable pub counts_text : List Line → List ℕ
counts_text lines = codes "matrices  " ++ (decimal (count_of counts.All lines) ++ (codes "\nblank     "
    ++ (decimal (count_of counts.Blank lines) ++ codes "\n")))

-- the rows of a case
abbrev pub case_rows : List ℕ
case_rows = 1 ∷ 2 ∷ 3 ∷ 4 ∷ 5 ∷ 6 ∷ 7 ∷ 8 ∷ 9 ∷ 10 ∷ 11 ∷ 12 ∷ 13 ∷ 14 ∷ 15 ∷ []

-- a row of a case, and how many matrices of all lines are of it
abbrev pub row_text : List Line → ℕ → List ℕ
row_text lines row = right 5 (decimal row) ++ (right 10 (decimal (count_of (counts.Row row) lines)) ++ codes "\n")

unfoldable pub table_text : List Line → List ℕ → List ℕ
table_text lines [] = []
table_text lines (row ∷ rows) = row_text lines row ++ table_text lines rows

-- how many matrices of all lines are of each row of the case, below the names of the columns
unfoldable pub case_text : List Line → List ℕ
case_text lines = codes "\n  row  matrices\n" ++ table_text lines case_rows

-- ---- the whole

-- what is below the head
unfoldable pub below_text : Pica → Pitch → ℕ → List Line → List ℕ
below_text pica pitch rows lines =
    widest_text pica lines
    ++ (tightest_text lines ++ (length_text rows pitch ++ (counts_text lines ++ case_text lines)))

-- the figures of the lines that so many rows cast
abbrev pub summary_text : Pica → Pitch → ℕ → List Line → List ℕ
summary_text pica pitch rows lines = head_text pica rows lines ++ below_text pica pitch rows lines
