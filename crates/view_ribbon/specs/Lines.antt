-- The lines of a ribbon as text.
use Rattle.std.specs.Prelude.{ℕ, ◌+◌, ℤ, pos, ◌-ℤ◌, int_lt, unsigned_abs, List, [], ◌∷◌, ◌++◌, length, codes}
use Rattle.std.specs.Prelude.{if◌then◌else◌, ◌==◌, Option, take, drop}
use Rattle.std.specs.Char.{encode_utf8}
use Rattle.std.specs.Fmt.{decimal}
use Rattle.desk_ops.specs.declared.op.Symbol.{Symbol}
use Rattle.desk_units.specs.declared.Pica.{Pica}
use Rattle.desk_caster.specs.declared.CastMatrix.{CastMatrix}
use Rattle.desk_caster.specs.Caster.{Line}
use Rattle.desk_caster.specs.Lines.{meaning}
use Rattle.view_proof.specs.Parts.{right, left, symbols_text, points_down, points_up}
use Rattle.view_ribbon.specs.Casting.{Cast}
use Rattle.view_ribbon.specs.Extent.{is_shown}
use Rattle.view_ribbon.specs.declared.extent.Lines.{Lines}

-- ---- widths

-- the greatest of a width and of those of lines
abbrev pub longest_from : ℤ → List Line → ℤ
longest_from width [] = width
longest_from width (line ∷ lines) = longest_from (if int_lt width line.total then line.total else width) lines

-- the width of the longest line, or nothing where there is none
abbrev pub longest_of : List Line → ℤ
longest_of [] = pos 0
longest_of (line ∷ lines) = longest_from line.total lines

-- a width in points, rounded down to a tenth: a line may be narrower than nothing
abbrev pub width_text : Pica → ℤ → List ℕ
width_text pica width = if int_lt width (pos 0) then codes "-" ++ points_up pica (unsigned_abs width)
    else points_down pica (unsigned_abs width)

-- by how much a width is below the longest, in points, rounded up to a tenth
abbrev pub short_text : Pica → (longest width : ℤ) → List ℕ
short_text pica longest width = points_up pica (unsigned_abs (longest -ℤ width))

-- ---- rows

-- what a matrix means to a reader: a symbol, a space, or a middle dot where it means nothing, as a fill
abbrev pub meaning_text : List Symbol → List ℕ
meaning_text [] = encode_utf8 183
meaning_text (s ∷ symbols) = symbols_text (s ∷ symbols)

abbrev pub matrices_text : List CastMatrix → List ℕ
matrices_text [] = []
matrices_text (matrix ∷ matrices) = meaning_text (meaning matrix.s matrix.symbol) ++ matrices_text matrices

-- the positions of the wedges, coarse and fine
abbrev pub pair_text : ℕ → ℕ → List ℕ
pair_text coarse fine = right 5 (decimal coarse) ++ (codes "/" ++ left 2 (decimal fine))

-- the width of a line, and how short of the longest it is
abbrev pub widths_text : Pica → ℤ → ℤ → List ℕ
widths_text pica longest width = right 10 (width_text pica width) ++ right 8 (short_text pica longest width)

-- the number of a line, its wedge pair and its widths
abbrev pub figures_text : Pica → ℤ → ℕ → Line → List ℕ
figures_text pica longest number line = right 6 (decimal number)
    ++ (pair_text line.coarse line.fine ++ widths_text pica longest line.total)

-- these, and what its matrices mean
abbrev pub line_text : Pica → ℤ → ℕ → Line → List ℕ
line_text pica longest number line = figures_text pica longest number line
    ++ (codes "  " ++ (matrices_text line.matrices ++ codes "\n"))

-- a line, where it is shown
abbrev pub shown_text : Pica → ℤ → Option Lines → ℕ → Line → List ℕ
shown_text pica longest shown number line = if is_shown shown number then line_text pica longest number line else []

-- those of lines that are shown, where so many stand before them
abbrev pub lines_from : Pica → ℤ → Option Lines → ℕ → List Line → List ℕ
lines_from pica longest shown before [] = []
lines_from pica longest shown before (line ∷ lines) = shown_text pica longest shown (before + 1) line
    ++ lines_from pica longest shown (before + 1) lines

-- ---- galleys

-- the mark of the end of a galley with this number
unfoldable pub mark_text : ℕ → List ℕ
mark_text number = codes "  -- end of galley " ++ decimal number ++ codes " --\n"

-- the number of the line that a mark behind so many goes with: that of the last, or of the first where there is none
abbrev pub marked_line : ℕ → ℕ
marked_line before = if before == 0 then 1 else before

-- a mark behind so many lines, where that line is shown
abbrev pub shown_mark : Option Lines → (before number : ℕ) → List ℕ
shown_mark shown before number = if is_shown shown (marked_line before) then mark_text number else []

-- Those of lines that are shown, where so many lines and galleys stand before them. Each galley that ends has so many
-- of the lines, and a mark behind them.
abbrev pub galleys_from : Pica → ℤ → Option Lines → (before done : ℕ) → List ℕ → List Line → List ℕ
galleys_from pica longest shown before done [] lines = lines_from pica longest shown before lines
galleys_from pica longest shown before done (size ∷ ended) lines =
    let galley = take size lines in
    let after = before + length galley in
    lines_from pica longest shown before galley
    ++ (shown_mark shown after (done + 1)
    ++ galleys_from pica longest shown after (done + 1) ended (drop size lines))

-- ---- the whole

-- how many lines there are, of how many rows
abbrev pub counts_text : ℕ → ℕ → List ℕ
counts_text lines rows = codes "RIBBON " ++ decimal lines ++ codes " lines, " ++ decimal rows ++ codes " rows"

-- these, and the width of the longest line
abbrev pub head_text : Pica → ℕ → List Line → List ℕ
head_text pica rows lines = counts_text (length lines) rows
    ++ (codes ", longest " ++ (width_text pica (longest_of lines) ++ codes " points\n"))

-- what stands above the lines
abbrev pub columns_text : List ℕ
columns_text = codes "\n  line    c/f     points   short  text\n"

-- the lines that the rows of a ribbon cast, in reading order: the counts of all, and those that are shown, with marks
abbrev pub ribbon_text : Pica → Option Lines → Cast → List ℕ
ribbon_text pica shown cast = head_text pica cast.rows cast.lines
    ++ (columns_text ++ galleys_from pica (longest_of cast.lines) shown 0 0 cast.ended cast.lines)
