-- A line of a galley as text, with its figures.
use Rattle.std.specs.Prelude.{ℕ, ◌-◌, ◌*◌, ◌/◌, Bool, true, false, ℤ, pos, int_le, int_lt, unsigned_abs, List, [], ◌∷◌}
use Rattle.std.specs.Prelude.{◌++◌, Option, Some, None, IfSome, option_and_then, codes, if◌then◌else◌}
use Rattle.std.specs.Fmt.{decimal, signed_decimal}
use Rattle.std.specs.Char.{encode_utf8}
use Rattle.std.specs.List.{All}
use Rattle.desk_ops.specs.declared.op.Symbol.{Symbol}
use Rattle.desk_units.specs.WedgeSum.{pair_of}
use Rattle.desk_job.specs.Setting.{IsWord}
use Rattle.view_galley.specs.Values.{LineValues}
use Rattle.view_galley.specs.Galley.{is_faulty}
use Rattle.view_proof.specs.declared.scale.Scale.{Scale}
use Rattle.view_proof.specs.Parts.{many, right, left, words_text, fills_text, begin_of}

-- ---- the wedge sum

-- the positions of the wedges, coarse and fine, where they reach the wedge sum
abbrev pub pair_text : Option (ℕ × ℕ) → List ℕ
pair_text None = codes "     - "
pair_text (Some pair) = right 4 (decimal pair.0) ++ codes "/" ++ left 2 (decimal pair.1)

abbrev pub sum_text : Option ℤ → List ℕ
sum_text None = codes "-"
sum_text (Some sum) = signed_decimal sum

-- where a number stands between two, on a scale from 0 to 20
abbrev pub place_between : (low high : ℕ) → ℤ → ℕ
place_between low high sum =
    if int_le sum (pos low) then 0 else if int_le (pos high) sum then 20
    else (unsigned_abs sum - low) * 20 / (high - low)

-- above both: `>` in a line with a fault, and `+` in one that is filled and may stand there
abbrev pub above_hand : Bool → ℕ
above_hand true = 62
above_hand false = 43

-- `|`, or `<` for a number below the two, and another hand for one above them
abbrev pub hand : (low high : ℕ) → Bool → ℤ → ℕ
hand low high faulty sum = if int_lt sum (pos low) then 60 else if int_lt (pos high) sum then above_hand faulty else 124

-- a hand at a place over dots
abbrev pub hand_text : ℕ → ℕ → List ℕ
hand_text place hand = many place 46 ++ encode_utf8 hand ++ many (20 - place) 46

-- a number between tight and loose, of a line with a fault or without
abbrev pub gauge_text : Scale → Bool → Option ℤ → List ℕ
gauge_text scale faulty None = many 21 46
gauge_text scale faulty (Some sum) =
    hand_text (place_between scale.tight scale.loose sum) (hand scale.tight scale.loose faulty sum)

-- ---- lines

-- The words of a line stand in the copy, and so does the word after it.
pub record HasWords (copy : List Symbol) (line : LineValues) : Type 0 where
  pub words : All (IsWord copy) line.words
  pub next : IfSome line.next (λ next. IsWord copy next.word)

-- a line with a fault is marked
abbrev pub mark_text : Bool → List ℕ
mark_text true = codes " ! "
mark_text false = codes "   "

-- the number of a line, its place, its wedge pair and sum, and the gauge
abbrev pub figures_text : Scale → LineValues → List ℕ
figures_text scale line =
    right 6 (decimal line.number) ++ right 8 (decimal (begin_of line.words))
    ++ pair_text (option_and_then pair_of line.wedge_sum)
    ++ right 6 (sum_text line.wedge_sum) ++ codes "  " ++ gauge_text scale (is_faulty line) line.wedge_sum

-- the words of a line, and its fills
abbrev pub set_text : List Symbol → LineValues → List ℕ
set_text copy line = words_text copy line.words ++ fills_text line.fills ++ codes "\n"

-- the figures of a line, the mark of a fault, its words and fills
abbrev pub line_text : List Symbol → Scale → LineValues → List ℕ
line_text copy scale line = figures_text scale line ++ mark_text (is_faulty line) ++ set_text copy line

abbrev pub lines_text : List Symbol → Scale → List LineValues → List ℕ
lines_text copy scale [] = []
lines_text copy scale (line ∷ lines) = line_text copy scale line ++ lines_text copy scale lines

-- what stands above the lines
abbrev pub columns_text : List ℕ
columns_text = codes "\n  line   place   c/f    sum  tight ...... loose\n"
