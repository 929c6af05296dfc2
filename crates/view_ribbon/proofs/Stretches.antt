-- The rows that are drawn of a ribbon that is cast.
use Rattle.std.proofs.Common.{◌≡◌, ◌∙◌, ℕ, suc, ◌-◌, ◌≤◌, ◌<◌, true, false, List, [], ◌∷◌, ap, arith, drop, refl, sym, take}
use Rattle.std.specs.Prelude.{nat_le, nat_lt}
use Rattle.std.proofs.lemmas.Bool.Decides.{nat_tests}
use Rattle.desk_ops.proofs.Stamps.{by_cases}
use Rattle.desk_signals.specs.declared.RibbonRow.{RibbonRow}
use Rattle.view_ribbon.specs.declared.extent.Lines.{Lines}
use Rattle.view_ribbon.specs.Stretch.{coarse_through, front_from, line_of}
use Rattle.view_ribbon.specs.StretchLaws.{RowsOfLinesAreDrawn, rows_of}
use Rattle.view_ribbon.proofs.Rising.{NeverFalls, cast_rises}

-- each row is of this line or of a later one
abbrev Above : ℕ → ℕ → List RibbonRow → Type 0
Above least before [] = Unit {0}
Above least before (row ∷ rows) = (least ≤ line_of before row) × Above least (coarse_through before row) rows

later : (before : ℕ) (row : RibbonRow) (rows : List RibbonRow) → NeverFalls before (row ∷ rows) → NeverFalls (coarse_through before row) rows
later before row [] rising = tt
later before row (next ∷ rows) rising = rising.1

all_above : (least before : ℕ) (row : RibbonRow) (rows : List RibbonRow) → NeverFalls before (row ∷ rows) → least ≤ line_of before row → Above least before (row ∷ rows)
all_above least before row [] rising low = (low, tt)
all_above least before row (next ∷ rows) rising low = (low, all_above least (coarse_through before row) next rows rising.1 (omega (arith, low, rising.0)))

-- a row that is one of those of lines, and rows that are not
shown_at : (lines : Lines) (before : ℕ) (row : RibbonRow) (rows : List RibbonRow) → lines.first ≤ line_of before row → line_of before row ≤ lines.last → rows_of lines before (row ∷ rows) ≡ row ∷ rows_of lines (coarse_through before row) rows
shown_at lines before row rows low high =
    let first : nat_le lines.first (line_of before row) ≡ true = grind (arith, nat_tests) in
    let last : nat_le (line_of before row) lines.last ≡ true = grind (arith, nat_tests) in
    rw (first, last) refl

before_them : (lines : Lines) (before : ℕ) (row : RibbonRow) (rows : List RibbonRow) → line_of before row < lines.first → rows_of lines before (row ∷ rows) ≡ rows_of lines (coarse_through before row) rows
before_them lines before row rows low =
    let first : nat_le lines.first (line_of before row) ≡ false = grind (arith, nat_tests) in
    rw first refl

behind_them : (lines : Lines) (before : ℕ) (rows : List RibbonRow) → Above (suc lines.last) before rows → rows_of lines before rows ≡ []
behind_them lines before [] above = refl
behind_them lines before (row ∷ rows) above =
    by_cases (nat_le lines.first (line_of before row))
    (λ first.
    let last : nat_le (line_of before row) lines.last ≡ false = grind (arith, nat_tests, above.0) in
    rw (first, last) (behind_them lines (coarse_through before row) rows above.1))
    (λ first. rw first (behind_them lines (coarse_through before row) rows above.1))

-- the rows up to the last line
kept_at : (last before : ℕ) (row : RibbonRow) (rows : List RibbonRow) → line_of before row ≤ last → take (front_from last before (row ∷ rows)) (row ∷ rows) ≡ row ∷ take (front_from last (coarse_through before row) rows) rows
kept_at last before row rows near = let test : nat_lt last (line_of before row) ≡ false = grind (arith, nat_tests) in rw test refl

none_kept : (last before : ℕ) (row : RibbonRow) (rows : List RibbonRow) → last < line_of before row → take (front_from last before (row ∷ rows)) (row ∷ rows) ≡ []
none_kept last before row rows far = let test : nat_lt last (line_of before row) ≡ true = grind (arith, nat_tests) in rw test refl

-- of these, those behind the lines before the first
dropped_at : (least before : ℕ) (row : RibbonRow) (rows : List RibbonRow) → line_of before row ≤ least → drop (front_from least before (row ∷ rows)) (row ∷ rows) ≡ drop (front_from least (coarse_through before row) rows) rows
dropped_at least before row rows near = let test : nat_lt least (line_of before row) ≡ false = grind (arith, nat_tests) in rw test refl

none_dropped : (least before : ℕ) (row : RibbonRow) (rows : List RibbonRow) → least < line_of before row → drop (front_from least before (row ∷ rows)) (row ∷ rows) ≡ row ∷ rows
none_dropped least before row rows far = let test : nat_lt least (line_of before row) ≡ true = grind (arith, nat_tests) in rw test refl

kept : (lines : Lines) (before : ℕ) (rows : List RibbonRow) → NeverFalls before rows → Above lines.first before rows → take (front_from lines.last before rows) rows ≡ rows_of lines before rows
kept lines before [] rising above = refl
kept lines before (row ∷ rows) rising above =
    by_cases (nat_lt lines.last (line_of before row))
    (λ far.
    let over : suc lines.last ≤ line_of before row = grind (arith, nat_tests) in
    none_kept lines.last before row rows over ∙ sym (behind_them lines before (row ∷ rows) (all_above (suc lines.last) before row rows rising over)))
    (λ near.
    let high : line_of before row ≤ lines.last = grind (arith, nat_tests) in
    kept_at lines.last before row rows high
    ∙ (ap (λ l. row ∷ l) (kept lines (coarse_through before row) rows (later before row rows rising) above.1) ∙ sym (shown_at lines before row rows above.0 high)))

drawn : (lines : Lines) (before : ℕ) (rows : List RibbonRow) → 1 ≤ lines.first → NeverFalls before rows
    → drop (front_from (lines.first - 1) before (take (front_from lines.last before rows) rows)) (take (front_from lines.last before rows) rows) ≡ rows_of lines before rows
drawn lines before [] some rising = refl
drawn lines before (row ∷ rows) some rising =
    by_cases (nat_lt lines.last (line_of before row))
    (λ far.
    let over : suc lines.last ≤ line_of before row = grind (arith, nat_tests) in
    rw (none_kept lines.last before row rows over) (sym (behind_them lines before (row ∷ rows) (all_above (suc lines.last) before row rows rising over))))
    (λ near.
    let high : line_of before row ≤ lines.last = grind (arith, nat_tests) in
    let rest = take (front_from lines.last (coarse_through before row) rows) rows in
    rw (kept_at lines.last before row rows high) (
    by_cases (nat_lt (lines.first - 1) (line_of before row))
    (λ within.
    let low : lines.first ≤ line_of before row = grind (arith, nat_tests) in
    none_dropped (lines.first - 1) before row rest (omega (arith, low, some))
    ∙ (ap (λ l. row ∷ l) (kept lines (coarse_through before row) rows (later before row rows rising) (all_above lines.first before row rows rising low).1) ∙ sym (shown_at lines before row rows low high)))
    (λ under.
    let low : line_of before row ≤ lines.first - 1 = grind (arith, nat_tests) in
    dropped_at (lines.first - 1) before row rest low
    ∙ (drawn lines (coarse_through before row) rows some (later before row rows rising) ∙ sym (before_them lines before row rows (omega (arith, low, some)))))))

pub those_of_lines : RowsOfLinesAreDrawn
those_of_lines case wedge rows sent lines h some = drawn lines 0 rows some (cast_rises case wedge rows sent h)
