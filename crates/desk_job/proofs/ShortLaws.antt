-- How short a line that is cast is of its measure.
use Rattle.std.proofs.Common.{◌≡◌, ℕ, zero, suc, ◌+◌, ◌-◌, ◌*◌, ◌<◌, ◌≤◌, Bool, true, false, cond, List, [], ◌∷◌, ◌++◌, map, length, replicate, refl, sym, ap, subst, ◌∙◌, Some, None, Option, arith}
use Rattle.std.specs.Prelude.{ℤ, pos, negsuc, ◌+ℤ◌, ◌-ℤ◌, ◌*ℤ◌, ◌≤ℤ◌, ◌<ℤ◌, neg_ℤ, sum_by}
use Rattle.std.specs.List.{zip}
use Rattle.std.proofs.lemmas.Int.{ints}
use Rattle.std.proofs.lemmas.List.Sums.{sum_by-cons}
use Rattle.std.proofs.Math.IntN.{pos-*ℤ-negsuc}
use Rattle.desk_ops.specs.declared.op.Symbol.{Symbol}
use Rattle.desk_units.specs.Widths.{step, IsSteps, steps_of}
use Rattle.desk_units.specs.WedgeSum.{driven, neutral, sum_at, widening}
use Rattle.desk_units.proofs.StepLaws.{one_number_of_steps}
use Rattle.desk_signals.specs.declared.Cell.{Cell}
use Rattle.desk_wedge.specs.Wedge.{WedgeValues}
use Rattle.desk_case.specs.Case.{CaseValues, cell_of}
use Rattle.desk_justify.specs.Filled.{taken}
use Rattle.desk_ribbon.specs.declared.Punch.{Punch}
use Rattle.desk_caster.specs.Caster.{row_width, total_width}
use Rattle.desk_caster.proofs.CastLaw.{casts}
use Rattle.desk_job.specs.Job.{Terms, SetLine, plain, word_punches, spaced_punches, words_punches, space_punch, fill_punches, fills, widths_of, punches, has_added, spaces, left, wedge_sum, cell_width, symbol_width, word_width, space_width, measure}
use Rattle.desk_job.proofs.LineSizes.{one_more}

-- the width of matrices at neutral, and how many are justified
abbrev pub neutral_width : WedgeValues → List Punch → ℕ
neutral_width wedge [] = 0
neutral_width wedge (punch ∷ more) = row_width wedge punch.cell.row + neutral_width wedge more

abbrev pub justified : List Punch → ℕ
justified [] = 0
justified (punch ∷ more) = cond punch.s 1 0 + justified more

total_step : (w t : ℤ) (width n b : ℕ) (s : Bool) → t ≡ pos b +ℤ pos n *ℤ w →
    (pos width +ℤ cond s w (pos 0)) +ℤ t ≡ pos (width + b) +ℤ pos (cond s 1 0 + n) *ℤ w
total_step w t width n b true e = let m = one_more w n in rw Rattle.std.proofs.Math.Numerals.one-add (omega (arith, ints, e, m))
total_step w t width n b false e = rw Rattle.std.proofs.Common.zero-add (omega (arith, ints, e))

no_times : (w : ℤ) → pos 0 ≡ pos 0 +ℤ pos 0 *ℤ w
no_times (pos k) = omega (arith, ints)
no_times (negsuc k) = omega (arith, ints)

pub total_is : (case : CaseValues) (wedge : WedgeValues) (coarse fine : ℕ) (ps : List Punch) →
    total_width (casts case wedge coarse fine ps) ≡ pos (neutral_width wedge ps) +ℤ pos (justified ps) *ℤ widening (sum_at coarse fine)
total_is case wedge coarse fine [] = no_times (widening (sum_at coarse fine))
total_is case wedge coarse fine (p ∷ ps) =
    total_step (widening (sum_at coarse fine)) (total_width (casts case wedge coarse fine ps)) (row_width wedge p.cell.row) (justified ps)
    (neutral_width wedge ps) p.s (total_is case wedge coarse fine ps)

neg_scaled : (s m : ℕ) → pos s *ℤ neg_ℤ (pos m) ≡ neg_ℤ (pos (s * m))
neg_scaled s zero = omega (arith, ints)
neg_scaled s (suc n) = pos-*ℤ-negsuc s n

-- steps for each of s spaces
pub scaled : (s : ℕ) (d : ℤ) → pos s *ℤ (pos step *ℤ d) ≡ pos (step * s) *ℤ d
scaled s (pos k) = omega (arith, ints)
scaled s (negsuc k) =
    ap (λ (z : ℤ). pos s *ℤ z) (pos-*ℤ-negsuc step k)
    ∙ (neg_scaled s (step * suc k)
    ∙ (ap (λ (n : ℕ). neg_ℤ (pos n)) (let e : s * (step * suc k) ≡ (step * s) * suc k = omega arith in e)
    ∙ sym (pos-*ℤ-negsuc (step * s) k)))

pub short_by : (measure width s p : ℕ) (d : ℤ) → IsSteps (pos measure -ℤ pos width) s d → driven d ≡ pos p →
    (pos 0 ≤ℤ (pos measure -ℤ (pos width +ℤ pos s *ℤ widening p)))
    × ((pos measure -ℤ (pos width +ℤ pos s *ℤ widening p)) <ℤ pos (step * s))
short_by measure width s p (pos k) is sum =
    let e : pos p -ℤ pos neutral ≡ pos k = omega (arith, ints) in
    let low = is.not_over in let high = is.short in
    rw e (omega (arith, ints, low), omega (arith, ints, high))
short_by measure width s p (negsuc k) is sum =
    let e : pos p -ℤ pos neutral ≡ negsuc k = omega (arith, ints) in
    let low = is.not_over in let high = is.short in
    rw (e, scaled s (negsuc k)) (omega (arith, ints, low), omega (arith, ints, high))

pub neutral_append : (wedge : WedgeValues) (a b : List Punch) → neutral_width wedge (a ++ b) ≡ neutral_width wedge a + neutral_width wedge b
neutral_append wedge [] b = omega arith
neutral_append wedge (p ∷ a) b = omega (arith, neutral_append wedge a b)

pub justified_append : (a b : List Punch) → justified (a ++ b) ≡ justified a + justified b
justified_append [] b = omega arith
justified_append (p ∷ a) b = omega (arith, justified_append a b)

neutral_plain : (terms : Terms) (found : Option Cell) → neutral_width terms.wedge (plain found) ≡ cell_width terms.wedge found
neutral_plain terms None = refl
neutral_plain terms (Some cell) = omega arith

justified_plain : (found : Option Cell) → justified (plain found) ≡ 0
justified_plain None = refl
justified_plain (Some cell) = refl

neutral_word : (terms : Terms) (word : List Symbol) → neutral_width terms.wedge (word_punches terms.case word) ≡ word_width terms word
neutral_word terms [] = refl
neutral_word terms (y ∷ word) =
    omega (arith, neutral_append terms.wedge (plain (cell_of terms.case y)) (word_punches terms.case word), neutral_plain terms (cell_of terms.case y), neutral_word terms word, sum_by-cons (symbol_width terms) y word)

justified_word : (case : CaseValues) (word : List Symbol) → justified (word_punches case word) ≡ 0
justified_word case [] = refl
justified_word case (y ∷ word) =
    omega (arith, justified_append (plain (cell_of case y)) (word_punches case word), justified_plain (cell_of case y), justified_word case word)

neutral_spaced : (terms : Terms) (words : List (List Symbol)) →
    neutral_width terms.wedge (spaced_punches terms.case words) ≡ sum_by (word_width terms) words + length words * space_width terms
neutral_spaced terms [] = omega arith
neutral_spaced terms (word ∷ words) =
    let a = neutral_append terms.wedge (word_punches terms.case word) (spaced_punches terms.case words) in
    let b = neutral_word terms word in
    let c = neutral_spaced terms words in
    let d = sum_by-cons (word_width terms) word words in
    omega (arith, a, b, c, d)

less_one : (n w : ℕ) → (suc n - 1) * w ≡ n * w
less_one n w = let e : suc n - 1 ≡ n = omega arith in rw e refl

neutral_words : (terms : Terms) (words : List (List Symbol)) →
    neutral_width terms.wedge (words_punches terms.case words) ≡ sum_by (word_width terms) words + (length words - 1) * space_width terms
neutral_words terms [] = omega arith
neutral_words terms (word ∷ words) =
    let a = neutral_append terms.wedge (word_punches terms.case word) (spaced_punches terms.case words) in
    let b = neutral_word terms word in
    let c = neutral_spaced terms words in
    let d = sum_by-cons (word_width terms) word words in
    let e = less_one (length words) (space_width terms) in
    omega (arith, a, b, c, d, e)

justified_spaced : (case : CaseValues) (words : List (List Symbol)) → justified (spaced_punches case words) ≡ length words
justified_spaced case [] = refl
justified_spaced case (word ∷ words) =
    let a = justified_append (word_punches case word) (spaced_punches case words) in
    let b = justified_word case word in
    let c = justified_spaced case words in
    omega (arith, a, b, c)

justified_words : (case : CaseValues) (words : List (List Symbol)) → justified (words_punches case words) ≡ length words - 1
justified_words case [] = omega arith
justified_words case (word ∷ words) =
    let a = justified_append (word_punches case word) (spaced_punches case words) in
    let b = justified_word case word in
    let c = justified_spaced case words in
    omega (arith, a, b, c)

neutral_fill : (wedge : WedgeValues) (n : ℕ) (cell : Cell) → neutral_width wedge (replicate n (record { cell = cell; s = false })) ≡ n * row_width wedge cell.row
neutral_fill wedge zero cell = omega arith
neutral_fill wedge (suc n) cell = omega (arith, neutral_fill wedge n cell)

justified_fill : (n : ℕ) (cell : Cell) → justified (replicate n (record { cell = cell; s = false })) ≡ 0
justified_fill zero cell = refl
justified_fill (suc n) cell = omega (arith, justified_fill n cell)

neutral_fills : (wedge : WedgeValues) (counts : List ℕ) (cells : List Cell) →
    neutral_width wedge (fill_punches (zip counts cells)) ≡ taken counts (widths_of wedge cells)
neutral_fills wedge [] cells = refl
neutral_fills wedge (n ∷ counts) [] = refl
neutral_fills wedge (n ∷ counts) (cell ∷ cells) =
    let a = neutral_append wedge (replicate n (record { cell = cell; s = false })) (fill_punches (zip counts cells)) in
    let b = neutral_fill wedge n cell in
    let c = neutral_fills wedge counts cells in
    omega (arith, a, b, c)

justified_fills : (counts : List ℕ) (cells : List Cell) → justified (fill_punches (zip counts cells)) ≡ 0
justified_fills [] cells = refl
justified_fills (n ∷ counts) [] = refl
justified_fills (n ∷ counts) (cell ∷ cells) =
    omega (
      arith,
      justified_append (replicate n (record { cell = cell; s = false })) (fill_punches (zip counts cells)),
      justified_fill n cell,
      justified_fills counts cells,
    )

justified_added : (terms : Terms) (added : Bool) → justified (cond added (space_punch terms.case ∷ []) []) ≡ cond added 1 0
justified_added terms true = omega arith
justified_added terms false = refl

neutral_added : (terms : Terms) (added : Bool) →
    neutral_width terms.wedge (cond added (space_punch terms.case ∷ []) []) ≡ cond added 1 0 * space_width terms
neutral_added terms true = omega arith
neutral_added terms false = omega arith

-- what is justified in a line are its spaces
pub justified_line : (terms : Terms) (line : SetLine) → justified (punches terms line) ≡ spaces terms line
justified_line terms line =
    omega (
      arith,
      justified_append (words_punches terms.case line.words) (cond (has_added terms line) (space_punch terms.case ∷ []) [] ++ fill_punches (zip (fills terms line) terms.case.fill)),
      justified_append (cond (has_added terms line) (space_punch terms.case ∷ []) []) (fill_punches (zip (fills terms line) terms.case.fill)),
      justified_words terms.case line.words,
      justified_added terms (has_added terms line),
      justified_fills (fills terms line) terms.case.fill,
    )

-- and what they are to take up is left of the measure
pub neutral_line : (terms : Terms) (line : SetLine) → left terms line ≡ pos (measure terms) -ℤ pos (neutral_width terms.wedge (punches terms line))
neutral_line terms line =
    omega (
      arith,
      ints,
      neutral_append terms.wedge (words_punches terms.case line.words) (cond (has_added terms line) (space_punch terms.case ∷ []) [] ++ fill_punches (zip (fills terms line) terms.case.fill)),
      neutral_append terms.wedge (cond (has_added terms line) (space_punch terms.case ∷ []) []) (fill_punches (zip (fills terms line) terms.case.fill)),
      neutral_words terms line.words,
      neutral_added terms (has_added terms line),
      neutral_fills terms.wedge (fills terms line) terms.case.fill,
    )

-- a line that is cast at its positions is short of the measure by less than a step for each space
pub line_short : (terms : Terms) (line : SetLine) (coarse fine : ℕ) → 1 ≤ spaces terms line → wedge_sum terms line ≡ pos (sum_at coarse fine) →
    (pos 0 ≤ℤ (pos (measure terms) -ℤ total_width (casts terms.case terms.wedge coarse fine (punches terms line))))
    × ((pos (measure terms) -ℤ total_width (casts terms.case terms.wedge coarse fine (punches terms line))) <ℤ pos (step * spaces terms line))
line_short terms line coarse fine some sum =
    let is = (one_number_of_steps (left terms line) (spaces terms line) some).0 in
    rw (total_is terms.case terms.wedge coarse fine (punches terms line), justified_line terms line)
    (short_by (measure terms) (neutral_width terms.wedge (punches terms line)) (spaces terms line) (sum_at coarse fine) (steps_of (left terms line) (spaces terms line))
    (subst (λ (z : ℤ). IsSteps z (spaces terms line) (steps_of (left terms line) (spaces terms line))) (neutral_line terms line) is) sum)
