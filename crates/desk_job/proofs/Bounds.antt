-- A ribbon has fewer than 2 ^ 32 rows.
use Rattle.std.proofs.Common.{◌≡◌, ℕ, zero, suc, ◌+◌, ◌-◌, ◌*◌, ◌/◌, ◌≤◌, Bool, true, false, List, [], ◌∷◌, ◌++◌, map, length, take, drop, replicate, ap, ◌∙◌, arith, length-drop, length-take, length-append, Option, Some, None}
use Rattle.std.specs.Prelude.{ℤ, pos, negsuc, unsigned_abs, ◌≤ℤ◌, if◌then◌else◌}
use Rattle.std.specs.List.{AllByRecursion, flat_map, zip}
use Rattle.std.proofs.lemmas.Int.{ints}
use Rattle.std.proofs.lemmas.List.{length-map, length-replicate}
use Rattle.std.proofs.Math.Nat.{mul-le-mul_left}
use Rattle.desk_ops.specs.declared.op.Symbol.{Symbol}
use Rattle.desk_units.specs.declared.Pica.{Pica}
use Rattle.desk_units.specs.declared.Pica.TheVariants.{Sixth, American}
use Rattle.desk_units.specs.Widths.{unit_atoms}
use Rattle.desk_signals.specs.declared.Cell.{Cell}
use Rattle.desk_case.specs.Case.{CaseValues, cell_of}
use Rattle.std.specs.Prelude.{◌==◌}
use Rattle.std.specs.List.{slice_split}
use Rattle.std.proofs.lemmas.Grind.{flat_map-append}
use Rattle.std.proofs.lemmas.List.Elements.{recursion_from_All}
use Rattle.desk_signals.specs.declared.RibbonRow.TheVariants.{Coarse, FineOut}
use Rattle.desk_wedge.specs.Wedge.{units_of_row}
use Rattle.desk_case.specs.Names.{IsCell}
use Rattle.desk_ops.specs.Op.{is_line_feed, is_space}
use Rattle.desk_lines.specs.Words.{words, paragraphs, words_of, drop_empty_last, most_symbols}
use Rattle.desk_lines.specs.Groups.{groups}
use Rattle.desk_lines.proofs.WordLaws.{span, span_is, split_is}
use Rattle.desk_units.specs.WedgeSum.{pair_of}
use Rattle.desk_justify.specs.Filled.{fill_counts, fills_of, room}
use Rattle.desk_ribbon.specs.declared.Punch.{Punch}
use Rattle.desk_ribbon.specs.Ribbon.{punch_row}
use Rattle.desk_job.specs.Job.{Terms, SetLine, measure, widths, word_width, widths_of, fill_widths, tight_space, has_added, rest, fills, wedge_sum, plain, word_punches, spaced_punches, words_punches, space_punch, fill_punches, punches, rows_at, line_rows, cut, marked, lines_of_words, lines}
use Rattle.desk_job.specs.Terms.{IsUsable}
use Rattle.desk_job.specs.Making.{CanAdd, all_lines}
use Rattle.desk_job.proofs.Fitting.{copy_fits}
use Rattle.desk_job.proofs.Widths.{units_in}
use Rattle.desk_job.proofs.Paragraphs.{Fit, groups_fit, copy_is}

abbrev pub sum_of_counts : List ℕ → ℕ
sum_of_counts [] = 0
sum_of_counts (count ∷ counts) = count + sum_of_counts counts

-- No width is less.
abbrev pub NoneLess : ℕ → List ℤ → Type 0
NoneLess least widths = AllByRecursion (λ width. least ≤ unsigned_abs width) widths

counts_times : (least room : ℕ) (widths : List ℤ) → 1 ≤ least → NoneLess least widths → least * sum_of_counts (fill_counts room widths) ≤ room
counts_times least room [] some wide = omega arith
counts_times least room (width ∷ widths) some wide =
    let w = unsigned_abs width in
    let count = room / w in
    let low = wide.0 in
    let used : count * w ≤ room = times_quotient room w (omega (arith, some, low)) in
    let more = counts_times least (room - count * w) widths some wide.1 in
    let first = mul-le-mul_left {m = least} {n = w} count low in
    omega (arith, used, more, first)
  where
    times_quotient : (a n : ℕ) → 1 ≤ n → a / n * n ≤ a
    times_quotient a n some = omega (arith, some)

room_le : (z : ℤ) (m : ℕ) → z ≤ℤ pos m → room z ≤ m
room_le (pos n) m h = omega (arith, ints, h)
room_le (negsuc n) m h = omega arith

abbrev pub least_width : Terms → ℕ
least_width terms = 20 * unit_atoms terms.wedge.pica

unit_least : (p : Pica) (units q : ℕ) → 1 ≤ units → 20 ≤ q → 20 * unit_atoms p ≤ units * q * unit_atoms p
unit_least p units q some low =
    let a = mul-le-mul_left {m = 1} {n = units} (q * unit_atoms p) some in
    let b = mul-le-mul_left {m = 20} {n = q} (unit_atoms p) low in
    omega (arith, a, b)

widths_wide : (terms : Terms) (cells : List Cell) → IsUsable terms → AllByRecursion IsCell cells → NoneLess (least_width terms) (widths_of terms.wedge cells)
widths_wide terms [] is cells_are = tt
widths_wide terms (cell ∷ cells) is cells_are =
    let some = units_in terms.wedge cell is.wedge cells_are.0 in
    let low = unit_least terms.wedge.pica (units_of_row terms.wedge cell.row) terms.wedge.set_q some.0 is.wedge.set_q.0 in
    (low, widths_wide terms cells is cells_are.1)

few_by_pica : (p : Pica) (points n : ℕ) → points ≤ 720 → (20 * unit_atoms p) * n ≤ points * (72 * unit_atoms p) → n ≤ 2592
few_by_pica Sixth points n h k = omega (arith, h, k)
few_by_pica American points n h k = omega (arith, h, k)

some_by_pica : (p : Pica) → 1 ≤ 20 * unit_atoms p
some_by_pica Sixth = omega arith
some_by_pica American = omega arith

fills_few : (terms : Terms) (z : ℤ) (filled : Bool) → IsUsable terms → z ≤ℤ pos (measure terms) →
    sum_of_counts (if filled then fills_of z (fill_widths terms) else []) ≤ 2592
fills_few terms z false is h = omega arith
fills_few terms z true is h =
    let wide = widths_wide terms terms.case.fill is (recursion_from_All IsCell terms.case.fill is.case.fill) in
    let times = counts_times (least_width terms) (room z) (fill_widths terms) (some_by_pica terms.wedge.pica) wide in
    let low = room_le z (measure terms) h in
    few_by_pica terms.wedge.pica terms.points (sum_of_counts (fill_counts (room z) (fill_widths terms))) is.points.1 (omega (arith, times, low))

fill_punches_few : (counts : List ℕ) (cells : List Cell) → length (fill_punches (zip counts cells)) ≤ sum_of_counts counts
fill_punches_few [] cells = omega arith
fill_punches_few (count ∷ counts) [] = omega arith
fill_punches_few (count ∷ counts) (cell ∷ cells) =
    let p : Punch = record { cell = cell; s = false } in
    let a = length-append (replicate count p) (fill_punches (zip counts cells)) in
    let b = length-replicate count p in
    let more = fill_punches_few counts cells in
    omega (arith, a, b, more)

plain_few : (found : Option Cell) → length (plain found) ≤ 1
plain_few None = omega arith
plain_few (Some cell) = omega arith

word_few : (case : CaseValues) (word : List Symbol) → length (word_punches case word) ≤ length word
word_few case [] = omega arith
word_few case (y ∷ word) =
    let a = length-append (plain (cell_of case y)) (word_punches case word) in
    let b = plain_few (cell_of case y) in
    let more = word_few case word in
    omega (arith, a, b, more)

spaced_few : (case : CaseValues) (ws : List (List Symbol)) → length (spaced_punches case ws) ≤ span ws
spaced_few case [] = omega arith
spaced_few case (word ∷ ws) =
    let a = length-append (word_punches case word) (spaced_punches case ws) in
    let b = word_few case word in
    let more = spaced_few case ws in
    omega (arith, a, b, more)

words_few : (case : CaseValues) (ws : List (List Symbol)) → length (words_punches case ws) ≤ span ws
words_few case [] = omega arith
words_few case (word ∷ ws) =
    let a = length-append (word_punches case word) (spaced_punches case ws) in
    let b = word_few case word in
    let more = spaced_few case ws in
    omega (arith, a, b, more)

added_few : (added : Bool) (p : Punch) → length (if added then p ∷ [] else []) ≤ 1
added_few true p = omega arith
added_few false p = omega arith

rest_le : (terms : Terms) (line : SetLine) → rest terms line ≤ℤ pos (measure terms)
rest_le terms line = omega (arith, ints)

rows_few : (ps : List Punch) (pair : Option (ℕ × ℕ)) → length (rows_at ps pair) ≤ length ps + 2
rows_few ps None = omega arith
rows_few ps (Some pair) =
    let a = length-append (map punch_row ps) (Coarse pair.0 ∷ FineOut pair.1 ∷ []) in
    let b = length-map ps punch_row in
    omega (arith, a, b)

-- the rows of a line
pub line_few : (terms : Terms) (line : SetLine) → IsUsable terms → 1 ≤ span line.words → length (line_rows terms line) ≤ 2596 * span line.words
line_few terms line is some =
    let ps = punches terms line in
    let fs = fill_punches (zip (fills terms line) terms.case.fill) in
    let added : List Punch = if has_added terms line then space_punch terms.case ∷ [] else [] in
    let a = length-append (words_punches terms.case line.words) (added ++ fs) in
    let b = length-append added fs in
    let c = words_few terms.case line.words in
    let d = added_few (has_added terms line) (space_punch terms.case) in
    let e = fill_punches_few (fills terms line) terms.case.fill in
    let f = fills_few terms (rest terms line) line.filled is (rest_le terms line) in
    let g = rows_few ps (pair_of (wedge_sum terms line)) in
    omega (arith, some, a, b, c, d, e, f, g)

-- ---- lines

abbrev pub spans : List (List (List Symbol)) → ℕ
spans [] = 0
spans (group ∷ groups) = span group + spans groups

abbrev pub HaveWords : List (List (List Symbol)) → Type 0
HaveWords groups = AllByRecursion (λ group. 1 ≤ span group) groups

-- the rows and the number of lines are few
pub record AreFew (terms : Terms) (ls : List SetLine) (n : ℕ) : Type 0 where
  pub rows : length (flat_map (line_rows terms) ls) ≤ 2596 * n
  pub lines : length ls ≤ n

marked_few : (terms : Terms) (groups : List (List (List Symbol))) → IsUsable terms → HaveWords groups → AreFew terms (marked groups) (spans groups)
marked_few terms [] is some = record { rows = omega arith; lines = omega arith }
marked_few terms (group ∷ []) is some =
    let line : SetLine = record { words = group; filled = true } in
    let a = line_few terms line is some.0 in
    let b = length-append (line_rows terms line) [] in
    let c = some.0 in
    record { rows = omega (arith, a, b); lines = omega (arith, c) }
marked_few terms (group ∷ next ∷ groups) is some =
    let line : SetLine = record { words = group; filled = length group == 1 } in
    let more = marked_few terms (next ∷ groups) is some.1 in
    let a = line_few terms line is some.0 in
    let b = length-append (line_rows terms line) (flat_map (line_rows terms) (marked (next ∷ groups))) in
    let c = some.0 in
    let d = more.rows in
    let e = more.lines in
    record { rows = omega (arith, a, b, d); lines = omega (arith, c, e) }

span_split : (n : ℕ) (ws : List (List Symbol)) → span ws ≡ span (take n ws) + span (drop n ws)
span_split zero ws = omega arith
span_split (suc n) [] = omega arith
span_split (suc n) (word ∷ ws) = let more = span_split n ws in omega (arith, more)

span_long : (ws : List (List Symbol)) → length ws ≤ span ws
span_long [] = omega arith
span_long (word ∷ ws) = let more = span_long ws in omega (arith, more)

cut_words : (sizes : List ℕ) (ws : List (List Symbol)) (n : ℕ) → n ≡ length ws → Fit sizes n → HaveWords (cut sizes ws) × (spans (cut sizes ws) ≤ span ws)
cut_words [] ws n e fits = (tt, omega arith)
cut_words (size ∷ sizes) ws n e fits =
    let long = length-drop size ws in
    let prefix = length-take size ws in
    let a = span_split size ws in
    let b = span_long (take size ws) in
    let some = fits.0 in
    let within = fits.1 in
    let more = cut_words sizes (drop size ws) (n - size) (omega (arith, e, long)) fits.2 in
    let c = more.1 in
    ((omega (arith, b, prefix, some, within, e), more.0), omega (arith, a, c))

few_more : (terms : Terms) (ls : List SetLine) (n m : ℕ) → n ≤ m → AreFew terms ls n → AreFew terms ls m
few_more terms ls n m h is = let a = is.rows in let b = is.lines in record { rows = omega (arith, a, h); lines = omega (arith, b, h) }

few_both : (terms : Terms) (prefix back : List SetLine) (n m : ℕ) → AreFew terms prefix n → AreFew terms back m → AreFew terms (prefix ++ back) (n + m)
few_both terms prefix back n m a b =
    let r = a.rows in let s = b.rows in let t = a.lines in let u = b.lines in
    let e : length (flat_map (line_rows terms) (prefix ++ back)) ≡ length (flat_map (line_rows terms) prefix) + length (flat_map (line_rows terms) back) =
    ap length (flat_map-append (line_rows terms) prefix back) ∙ length-append (flat_map (line_rows terms) prefix) (flat_map (line_rows terms) back) in
    let f = length-append prefix back in
    record { rows = omega (arith, r, s, e); lines = omega (arith, t, u, f) }

words_lines_few : (terms : Terms) (ws : List (List Symbol)) → IsUsable terms → AreFew terms (lines_of_words terms ws) (span ws)
words_lines_few terms ws is =
    let sizes = groups (tight_space terms) (pos (measure terms)) (widths terms ws) in
    let long = length-map ws (λ (w : List Symbol). pos (word_width terms w)) in
    let cuts = cut_words sizes ws (length (widths terms ws)) long (groups_fit (tight_space terms) (pos (measure terms)) (widths terms ws)) in
    few_more terms (lines_of_words terms ws) (spans (cut sizes ws)) (span ws) cuts.1 (marked_few terms (cut sizes ws) is cuts.0)

paragraphs_few : (terms : Terms) (ps : List (List Symbol)) → IsUsable terms → AreFew terms (flat_map (λ p. lines_of_words terms (words p)) ps) (span ps)
paragraphs_few terms [] is = record { rows = omega arith; lines = omega arith }
paragraphs_few terms (p ∷ ps) is =
    let e : span (words p) ≡ length p + 1 = span_is is_space p (words p) (split_is is_space p) in
    let one : AreFew terms (lines_of_words terms (words p)) (length p + 1) = few_more terms (lines_of_words terms (words p)) (span (words p)) (length p + 1) (omega (arith, e)) (words_lines_few terms (words p) is) in
    few_both terms (lines_of_words terms (words p)) (flat_map (λ p. lines_of_words terms (words p)) ps) (length p + 1) (span ps) one (paragraphs_few terms ps is)

dropped_span : (ps : List (List Symbol)) → span (drop_empty_last ps) ≤ span ps
dropped_span [] = omega arith
dropped_span ([] ∷ []) = omega arith
dropped_span ((y ∷ p) ∷ []) = omega arith
dropped_span (p ∷ next ∷ ps) = let more = dropped_span (next ∷ ps) in omega (arith, more)

pub copy_few : (terms : Terms) (copy : List Symbol) → IsUsable terms → AreFew terms (lines terms copy) (length copy + 1)
copy_few terms copy is =
    let a = dropped_span (slice_split is_line_feed copy) in
    let b : span (slice_split is_line_feed copy) ≡ length copy + 1 = span_is is_line_feed copy (slice_split is_line_feed copy) (split_is is_line_feed copy) in
    few_more terms (lines terms copy) (span (paragraphs copy)) (length copy + 1) (omega (arith, a, b)) (paragraphs_few terms (paragraphs copy) is)

-- The lines of a copy can be added.
pub copy_room : (terms : Terms) (copy : List Symbol) → IsUsable terms → length copy ≤ most_symbols →
    CanAdd terms (all_lines terms copy (words_of copy)) (record { next = 1; faults = []; rows = [] })
copy_room terms copy is small =
    let few = copy_few terms copy is in
    let a = few.rows in let b = few.lines in
    rw (copy_is terms copy) (record { fit = copy_fits terms copy; rows = λ none. omega (arith, a, small); numbers = omega (arith, b, small) })
