-- Lines that can be set are cast line by line.
use Rattle.std.proofs.Common.{◌≡◌, ℕ, zero, suc, ◌≤◌, Bool, true, false, cond, List, [], ◌∷◌, ◌++◌, map, replicate, refl, ap, Some, None, Option, arith, eq-eqb}
use Rattle.std.specs.Prelude.{ℤ, pos, negsuc, ◌≤ℤ◌, nat_le, ◌||◌, is_some}
use Rattle.std.specs.List.{flat_map, zip, list_any, AllByRecursion}
use Rattle.std.proofs.lemmas.Int.{ints}
use Rattle.std.proofs.lemmas.Bool.{or_right}
use Rattle.std.proofs.lemmas.Bool.Decides.{nat_tests}
use Rattle.std.proofs.lemmas.List.Elements.{recursion_from_All}
use Rattle.desk_ops.specs.declared.op.Symbol.{Symbol}
use Rattle.desk_ops.proofs.Lists.{Each-append}
use Rattle.desk_signals.specs.declared.Cell.{Cell}
use Rattle.desk_signals.specs.declared.RibbonRow.{RibbonRow}
use Rattle.desk_signals.specs.Rows.{IsRow}
use Rattle.desk_case.specs.Names.{IsCell, place, same_cell}
use Rattle.desk_case.specs.Case.{CaseValues, IsCase, symbol_at, cell_of, is_fill}
use Rattle.desk_case.proofs.Grids.{inverse}
use Rattle.desk_units.specs.WedgeSum.{coarse_of, fine_of, greatest, least, pair_of, sum_at}
use Rattle.desk_ribbon.specs.declared.Punch.{Punch}
use Rattle.desk_ribbon.specs.declared.PunchLine.{PunchLine}
use Rattle.desk_ribbon.specs.Ribbon as ribbon
use Rattle.desk_caster.specs.Caster.{has_matrix}
use Rattle.desk_caster.specs.Lines.{HasAll, LinesHaveAll, line_cast}
use Rattle.desk_job.specs.Job.{Terms, SetLine, plain, word_punches, spaced_punches, words_punches, space_punch, fill_punches, fills, punches, has_added, spaces, wedge_sum, line_rows}
use Rattle.desk_job.specs.Reading.{AreLines}
use Rattle.desk_job.proofs.ReadLaws.{IsSound, WordsHave, line_reads}
use Rattle.desk_job.proofs.ShortLaws.{line_short}

-- ---- positions

pub record HasPair (sum : ℤ) : Type 0 where
  pub coarse : ℕ
  pub fine : ℕ
  pub is : pair_of sum ≡ Some (coarse, fine)
  pub adds : sum ≡ pos (sum_at coarse fine)
  pub coarse_in : (1 ≤ coarse) × (coarse ≤ 15)
  pub fine_in : (1 ≤ fine) × (fine ≤ 15)

pub pair_exists : (sum : ℤ) → pos least ≤ℤ sum → sum ≤ℤ pos greatest → HasPair sum
pair_exists (pos sum) low high =
    let a : least ≤ sum = omega (arith, ints, low) in
    let b : sum ≤ greatest = omega (arith, ints, high) in
    let s : nat_le least sum ≡ true = grind (arith, nat_tests) in
    let t : nat_le sum greatest ≡ true = grind (arith, nat_tests) in
    record {
      coarse = coarse_of sum;
      fine = fine_of sum;
      is = rw (s, t) refl;
      adds = ap pos (let e : sum ≡ sum_at (coarse_of sum) (fine_of sum) = omega arith in e);
      coarse_in = (omega (arith, a), omega (arith, b));
      fine_in = (omega arith, omega arith);
    }
pair_exists (negsuc sum) low high = absurd (let e : ⊥ = omega (arith, ints, low) in e)

-- ---- the matrices of a line are in the case

abbrev pub IsIn : CaseValues → Cell → Type 0
IsIn case cell = (has_matrix case cell ≡ true) × IsCell cell

abbrev pub AreIn : CaseValues → List Punch → Type 0
AreIn case ps = AllByRecursion (λ p. IsIn case p.cell) ps

same_cell-refl : (cell : Cell) → same_cell cell cell ≡ true
same_cell-refl cell = eq-eqb (place cell) (place cell) refl

or_first : (a b : Bool) → a ≡ true → (a || b) ≡ true
or_first a b e = rw e refl

has_space : (case : CaseValues) → has_matrix case case.space ≡ true
has_space case =
    or_right (is_some (symbol_at case case.space)) (same_cell case.space case.space || is_fill case case.space)
    (or_first (same_cell case.space case.space) (is_fill case case.space) (same_cell-refl case.space))

each_map : {A : Type 0} (P Q : A → Type 0) (xs : List A) → ((x : A) → P x → Q x) → AllByRecursion P xs → AllByRecursion Q xs
each_map P Q [] f each = tt
each_map P Q (x ∷ xs) f each = (f x each.0, each_map P Q xs f each.1)

self_any : (cells : List Cell) → AllByRecursion (λ c. list_any (same_cell c) cells ≡ true) cells
self_any [] = tt
self_any (c ∷ cells) = (
  or_first (same_cell c c) (list_any (same_cell c) cells) (same_cell-refl c),
  each_map (λ d. list_any (same_cell d) cells ≡ true) (λ d. list_any (same_cell d) (c ∷ cells) ≡ true) cells
      (λ d e. or_right (same_cell d c) (list_any (same_cell d) cells) e) (self_any cells),
)

both_each : {A : Type 0} (P Q : A → Type 0) (xs : List A) → AllByRecursion P xs → AllByRecursion Q xs → AllByRecursion (λ x. P x × Q x) xs
both_each P Q [] a b = tt
both_each P Q (x ∷ xs) a b = ((a.0, b.0), both_each P Q xs a.1 b.1)

fills_in : (case : CaseValues) → IsCase case → AllByRecursion (IsIn case) case.fill
fills_in case is =
    both_each (λ c. has_matrix case c ≡ true) IsCell case.fill
    (each_map (λ c. is_fill case c ≡ true) (λ c. has_matrix case c ≡ true) case.fill
    (λ c e. or_right (is_some (symbol_at case c)) (same_cell case.space c || is_fill case c)
    (or_right (same_cell case.space c) (is_fill case c) e)) (self_any case.fill))
    (recursion_from_All IsCell case.fill is.fill)

pub case_sound : (case : CaseValues) → IsCase case → IsSound case
case_sound case is = record {
  inverse = λ symbol cell e. ((inverse case is symbol cell).0 e).0;
  space_blank = is.space_blank;
  fills_blank = recursion_from_All (λ cell. symbol_at case cell ≡ None) case.fill is.fill_blank;
}

symbol_in : (case : CaseValues) (symbol : Symbol) (found : Option Cell) → IsCase case → cell_of case symbol ≡ found → AreIn case (plain found)
symbol_in case symbol None is e = tt
symbol_in case symbol (Some cell) is e =
    let back = (inverse case is symbol cell).0 e in
    let held : is_some (symbol_at case cell) ≡ true = rw back.0 refl in
    ((or_first (is_some (symbol_at case cell)) (same_cell case.space cell || is_fill case cell) held, back.1), tt)

in_append : (case : CaseValues) (a b : List Punch) → AreIn case a → AreIn case b → AreIn case (a ++ b)
in_append case [] b h k = k
in_append case (p ∷ a) b h k = (h.0, in_append case a b h.1 k)

word_in : (case : CaseValues) (word : List Symbol) → IsCase case → AreIn case (word_punches case word)
word_in case [] is = tt
word_in case (y ∷ word) is =
    in_append case (plain (cell_of case y)) (word_punches case word) (symbol_in case y (cell_of case y) is refl) (word_in case word is)

spaced_in : (case : CaseValues) (words : List (List Symbol)) → IsCase case → AreIn case (spaced_punches case words)
spaced_in case [] is = tt
spaced_in case (word ∷ words) is =
    ((has_space case, is.space), in_append case (word_punches case word) (spaced_punches case words) (word_in case word is) (spaced_in case words is))

words_in : (case : CaseValues) (words : List (List Symbol)) → IsCase case → AreIn case (words_punches case words)
words_in case [] is = tt
words_in case (word ∷ words) is = in_append case (word_punches case word) (spaced_punches case words) (word_in case word is) (spaced_in case words is)

times_in : (case : CaseValues) (n : ℕ) (cell : Cell) → IsIn case cell → AreIn case (replicate n (record { cell = cell; s = false }))
times_in case zero cell h = tt
times_in case (suc n) cell h = (h, times_in case n cell h)

fill_punches_in : (case : CaseValues) (counts : List ℕ) (cells : List Cell) → AllByRecursion (IsIn case) cells → AreIn case (fill_punches (zip counts cells))
fill_punches_in case [] cells h = tt
fill_punches_in case (n ∷ counts) [] h = tt
fill_punches_in case (n ∷ counts) (cell ∷ cells) h =
    in_append case (replicate n (record { cell = cell; s = false })) (fill_punches (zip counts cells)) (times_in case n cell h.0) (fill_punches_in case counts cells h.1)

end_in : (case : CaseValues) (added : Bool) (ps : List Punch) → IsCase case → AreIn case ps → AreIn case (cond added (space_punch case ∷ []) [] ++ ps)
end_in case true ps is h = ((has_space case, is.space), h)
end_in case false ps is h = h

line_in : (terms : Terms) (line : SetLine) → IsCase terms.case → AreIn terms.case (punches terms line)
line_in terms line is =
    in_append terms.case (words_punches terms.case line.words) (cond (has_added terms line) (space_punch terms.case ∷ []) [] ++ fill_punches (zip (fills terms line) terms.case.fill))
    (words_in terms.case line.words is)
    (end_in terms.case (has_added terms line) (fill_punches (zip (fills terms line) terms.case.fill)) is
    (fill_punches_in terms.case (fills terms line) terms.case.fill (fills_in terms.case is)))

has_all : (case : CaseValues) (ps : List Punch) → AreIn case ps → HasAll case ps
has_all case [] h = tt
has_all case (p ∷ ps) h = (h.0.0, has_all case ps h.1)

rows_are : (case : CaseValues) (ps : List Punch) (rest : List RibbonRow) → AreIn case ps → AllByRecursion IsRow rest → AllByRecursion IsRow (map ribbon.punch_row ps ++ rest)
rows_are case [] rest h k = k
rows_are case (p ∷ ps) rest h k = ((h.0.1.0, h.0.1.1), rows_are case ps rest h.1 k)

-- ---- lines

-- what a line without a fault has
pub record CanBeSet (terms : Terms) (line : SetLine) : Type 0 where
  pub has : WordsHave terms.case line.words
  pub some : 1 ≤ spaces terms line
  pub low : pos least ≤ℤ wedge_sum terms line
  pub high : wedge_sum terms line ≤ℤ pos greatest

-- lines as they are punched
pub record ArePunched (terms : Terms) (ls : List SetLine) : Type 0 where
  pub punched : List (PunchLine (Unit {0}))
  pub rows : flat_map ribbon.line_rows punched ≡ flat_map (line_rows terms) ls
  pub have : LinesHaveAll terms.case punched
  pub read : AreLines terms ls (map (line_cast terms.case terms.wedge) punched)
  pub lawful : AllByRecursion IsRow (flat_map (line_rows terms) ls)

pub lines_punched : (terms : Terms) (ls : List SetLine) → IsCase terms.case → AllByRecursion (CanBeSet terms) ls → ArePunched terms ls
lines_punched terms [] is each = record { punched = []; rows = refl; have = tt; read = tt; lawful = tt }
lines_punched terms (line ∷ ls) is each =
    let set = each.0 in
    let sound = case_sound terms.case is in
    let found = pair_exists (wedge_sum terms line) set.low set.high in
    let more = lines_punched terms ls is each.1 in
    let short = line_short terms line found.coarse found.fine set.some found.adds in
    let one : PunchLine (Unit {0}) = record { matrices = punches terms line; coarse = found.coarse; fine = found.fine } in
    let here : line_rows terms line ≡ ribbon.line_rows one = rw found.is refl in
    record {
      punched = one ∷ more.punched;
      rows = rw (here, more.rows) refl;
      have = (has_all terms.case (punches terms line) (line_in terms line is), more.have);
      read = (record { reads = line_reads terms line found.coarse found.fine sound set.has; not_over = short.0; short = short.1 }, more.read);
      lawful = rw here (Each-append IsRow (ribbon.line_rows one) (flat_map (line_rows terms) ls)
          (rows_are terms.case (punches terms line) _ (line_in terms line is) (found.coarse_in, (found.fine_in, tt))) more.lawful);
    }
