-- A case without NI and NL holds nothing there.
use Rattle.std.proofs.Common.{◌≡◌, ◌≢◌, ◌∙◌, ℕ, zero, suc, ◌+◌, ◌-◌, ◌*◌, ◌≤◌, ◌<◌, Bool, true, false, if◌then◌else◌, List, [], ◌∷◌, ◌++◌, length, replicate, Option, Some, None, Result, Ok, Err, refl, sym, ap, subst, length-append, arith}
use Rattle.std.specs.Prelude.{map, nat_lt, option_map, option_and_then, slice_get, All}
use Rattle.std.specs.List.{flat_map}
use Rattle.std.specs.Option.{option_flatten}
use Rattle.std.proofs.lemmas.Bool.Decides.{nat_tests}
use Rattle.std.proofs.lemmas.List.Elements.{All-head, All-tail}
use Rattle.std.proofs.lemmas.List.{length-map, length-replicate}
use Rattle.toml.specs.Data.{Data, Members, as_str}
use Rattle.desk_signals.specs.declared.Cell.{Cell}
use Rattle.desk_signals.specs.Columns.{index}
use Rattle.desk_ops.specs.declared.op.Symbol.{Symbol}
use Rattle.desk_wedge.specs.Keys.{◌>>=◌, number_of}
use Rattle.desk_wedge.specs.Items.{array_of}
use Rattle.desk_wedge.proofs.Values.{array_read, all_read}
use Rattle.desk_case.specs.declared.CaseKey.TheVariants as key
use Rattle.desk_case.specs.declared.CaseFault.{CaseFault}
use Rattle.desk_case.specs.declared.CaseFault.TheVariants.{Doubled, NotBlank}
use Rattle.desk_case.specs.Names.{cell_named, place, IsCell}
use Rattle.desk_case.specs.Case.{CaseValues, symbol_at}
use Rattle.desk_case.specs.File.{Sheet, row_of, cell_within, cell_of_data, fill_of, at_key, matrix_of, cells_of, matrices_of, or_else, sheet_in, sheet_of, grid_from, unless, first_doubled, first_held}
use Rattle.desk_case.specs.Laws.{NarrowCasesLackColumns}
use Rattle.desk_case.proofs.Columns.{index_small}
use Rattle.desk_case.proofs.Grids.{Grid}
use Rattle.desk_case.proofs.Lawful.{at_key_read}
use Rattle.desk_case.proofs.Rows.{Matrices}

-- what stands in a list of two parts, and in a list of one thing
behind_prefix : {A : Type 0} (xs ys : List A) (n i : ℕ) → n ≡ length xs + i → slice_get (xs ++ ys) n ≡ slice_get ys i
behind_prefix [] ys n i e = ap (slice_get ys) (omega (arith, e))
behind_prefix (x ∷ xs) ys zero i e = absurd (omega (arith, e))
behind_prefix (x ∷ xs) ys (suc n) i e = behind_prefix xs ys n i (omega (arith, e))

in_prefix : {A : Type 0} (xs ys : List A) (i : ℕ) → i < length xs → slice_get (xs ++ ys) i ≡ slice_get xs i
in_prefix [] ys i h = absurd (omega (arith, h))
in_prefix (x ∷ xs) ys zero h = refl
in_prefix (x ∷ xs) ys (suc i) h = in_prefix xs ys i (omega (arith, h))

repeated : {A : Type 0} (n i : ℕ) (x : A) → i < n → slice_get (replicate n x) i ≡ Some x
repeated zero i x h = absurd (omega (arith, h))
repeated (suc n) zero x h = refl
repeated (suc n) (suc i) x h = repeated n i x (omega (arith, h))

-- a column that a row has not
record IsBlankAt (i : ℕ) (texts : List (List ℕ)) : Type 0 where
  long : length (cells_of texts) ≡ 17
  blank : slice_get (cells_of texts) i ≡ Some (Some None)

row_blank : (columns i : ℕ) → columns ≤ i → i < 17 → (d : Data) (texts : List (List ℕ)) → row_of columns d ≡ Some texts → IsBlankAt i texts
row_blank columns i low high d texts e =
    let a = array_read columns columns as_str d texts e in
    let long = length-map texts matrix_of in
    let pad : List (Option (Option Symbol)) = replicate (17 - length texts) (Some None) in
    let there : i ≡ length (map matrix_of texts) + (i - length texts) = omega (arith, long, a.most, low) in
    record {
      long = omega (arith, low, high, a.least, a.most, length-append (map matrix_of texts) pad, long, length-replicate (17 - length texts) none_there);
      blank =
          behind_prefix (map matrix_of texts) pad i (i - length texts) there
          ∙ repeated (17 - length texts) (i - length texts) none_there (omega (arith, a.least, a.most, low, high));
    }
  where
    none_there : Option (Option Symbol)
    none_there = Some None

rows_blank : (i k : ℕ) (rows : List (List (List ℕ))) → i < 17 → All (IsBlankAt i) rows → k < length rows → slice_get (flat_map cells_of rows) (17 * k + i) ≡ Some (Some None)
rows_blank i k [] small all h = absurd (omega (arith, h))
rows_blank i zero (r ∷ rows) small all h =
    let first = All-head (IsBlankAt i) r rows all in
    let here : 17 * 0 + i ≡ i = omega arith in
    ap (slice_get (cells_of r ++ flat_map cells_of rows)) here
    ∙ (in_prefix (cells_of r) (flat_map cells_of rows) i (omega (arith, first.long, small)) ∙ first.blank)
rows_blank i (suc k) (r ∷ rows) small all h =
    let first = All-head (IsBlankAt i) r rows all in
    let there : 17 * suc k + i ≡ length (cells_of r) + (17 * k + i) = omega (arith, first.long) in
    behind_prefix (cells_of r) (flat_map cells_of rows) (17 * suc k + i) (17 * k + i) there
    ∙ (rows_blank i k rows small (All-tail (IsBlankAt i) r rows all) (omega (arith, h)))

matrices_blank_at : (columns i k : ℕ) → columns ≤ i → i < 17 → k < 15 → (ms : Matrices) (d : Data) (o : Option (List (List (List ℕ)))) → array_of 15 15 (row_of columns) d ≡ o
    → option_map (λ rows. flat_map cells_of rows) o ≡ Some ms → slice_get ms (17 * k + i) ≡ Some (Some None)
matrices_blank_at columns i k low high row ms d None reported e = cc
matrices_blank_at columns i k low high row ms d (Some rows) reported e =
    let same : flat_map cells_of rows ≡ ms = cc in
    let a = array_read 15 15 (row_of columns) d rows reported in
    ap (λ xs. slice_get xs (17 * k + i)) (sym same)
    ∙ rows_blank i k rows high (all_read (IsBlankAt i) (row_of columns) (row_blank columns i low high) a.items rows a.each) (omega (arith, row, a.least))

abbrev BlankAt : ℕ → ℕ → Sheet → Type 0
BlankAt i k s = s.columns ≤ i → slice_get s.matrices (17 * k + i) ≡ Some (Some None)

abbrev sheet_made : ℕ → Matrices → Sheet
sheet_made columns ms = record { columns = columns; matrices = ms }

sheet_in_blank : (columns i k : ℕ) → i < 17 → k < 15 → (d : Data) (s : Sheet) (o : Option Matrices) → matrices_of columns d ≡ o → option_map (sheet_made columns) o ≡ Some s → BlankAt i k s
sheet_in_blank columns i k high row d s None reported e = cc
sheet_in_blank columns i k high row d s (Some ms) reported e =
    let same : sheet_made columns ms ≡ s = cc in
    subst (BlankAt i k) same (λ low. matrices_blank_at columns i k low high row ms d (array_of 15 15 (row_of columns) d) refl reported)

either_blank : (i k : ℕ) (s : Sheet) (o rest : Option Sheet) → (o ≡ Some s → BlankAt i k s) → (rest ≡ Some s → BlankAt i k s) → or_else o rest ≡ Some s → BlankAt i k s
either_blank i k s None rest first second e = second e
either_blank i k s (Some t) rest first second e = first e

sheet_blank : (i k : ℕ) → i < 17 → k < 15 → (d : Data) (s : Sheet) → sheet_of d ≡ Some s → BlankAt i k s
sheet_blank i k high row d s e =
    either_blank i k s (sheet_in 15 d) (sheet_in 17 d)
    (λ f. sheet_in_blank 15 i k high row d s (matrices_of 15 d) refl f)
    (λ f. sheet_in_blank 17 i k high row d s (matrices_of 17 d) refl f) e

-- what a blank becomes in the grid
next_blank : (m : Option Symbol) (r : Result Grid CaseFault) (g : Grid) (n : ℕ) → ((rest : Grid) → r ≡ Ok rest → slice_get rest n ≡ Some None) → (r >>= (λ rest. Ok (m ∷ rest))) ≡ Ok g
    → slice_get g (suc n) ≡ Some None
next_blank m (Err f) g n ih e = cc
next_blank m (Ok rest) g n ih e = let same : g ≡ m ∷ rest = cc in rw same (ih rest refl)

first_blank : (r : Result Grid CaseFault) (m : Option Symbol) (g : Grid) → m ≡ None → (r >>= (λ rest. Ok (m ∷ rest))) ≡ Ok g → slice_get g 0 ≡ Some None
first_blank (Err f) m g none e = cc
first_blank (Ok rest) m g none e = let same : g ≡ m ∷ rest = cc in rw same (ap (λ (o : Option Symbol). Some o) none)

grid_blank : (k : ℕ) (ms : Matrices) (g : Grid) (n : ℕ) → grid_from k ms ≡ Ok g → slice_get ms n ≡ Some (Some None) → slice_get g n ≡ Some None
grid_blank k [] g n e at = cc
grid_blank k (None ∷ ms) g n e at = cc
grid_blank k (Some m ∷ ms) g zero e at = let none : m ≡ None = cc in first_blank (grid_from (k + 1) ms) m g none e
grid_blank k (Some m ∷ ms) g (suc n) e at = next_blank m (grid_from (k + 1) ms) g n (λ rest f. grid_blank (k + 1) ms rest n f at) e

-- cells that are named
within_index : (columns : ℕ) (c d : Cell) (b : Bool) → nat_lt (index d.column) columns ≡ b → (if b then Some d else None) ≡ Some c → index c.column < columns
within_index columns c d true test e =
    let same : d ≡ c = cc in
    subst (λ (x : Cell). index x.column < columns) same (grind (arith, nat_tests))
within_index columns c d false test e = cc

named_index_at : (columns : ℕ) (c : Cell) (o : Option Cell) → option_and_then (λ cell. if nat_lt (index cell.column) columns then Some cell else None) o ≡ Some c → index c.column < columns
named_index_at columns c None e = cc
named_index_at columns c (Some d) e = within_index columns c d (nat_lt (index d.column) columns) refl e

text_index_at : (columns : ℕ) (o : Option (List ℕ)) (c : Cell) → option_and_then (cell_within columns) o ≡ Some c → index c.column < columns
text_index_at columns None c e = cc
text_index_at columns (Some text) c e = named_index_at columns c (cell_named text) e

named_index : (columns : ℕ) (d : Data) (c : Cell) → cell_of_data columns d ≡ Some c → index c.column < columns
named_index columns d c e = text_index_at columns (as_str d) c e

-- the steps of a file that is read
bound : {A B : Type 0} (r : Result A CaseFault) (f : A → Result B CaseFault) (b : B) → (r >>= f) ≡ Ok b → (a : A) × (r ≡ Ok a) × (f a ≡ Ok b)
bound (Ok a) f b e = (a, refl, e)
bound (Err x) f b e = cc

kept : {A B : Type 0} (fault : A → CaseFault) (o : Option A) (b c : B) → unless fault o b ≡ Ok c → b ≡ c
kept fault None b c e = cc
kept fault (Some a) b c e = cc

abbrev case_made : ℕ → Grid → Cell → List Cell → CaseValues
case_made n g s f = record { number = n; grid = g; space = s; fill = f }

other_cell : (columns : ℕ) (c d : Cell) → index d.column < columns → columns ≤ index c.column → c ≢ d
other_cell columns c d within beyond e = let same : index c.column ≡ index d.column = ap (λ (x : Cell). index x.column) e in absurd (omega (arith, same, within, beyond))

lacks : (members : Members) (t : Sheet) (s : Cell) (f : List Cell) (g : Grid) (cell : Cell) → at_key key.Rows sheet_of members ≡ Ok t → at_key key.Space (cell_of_data t.columns) members ≡ Ok s
    → at_key key.Fill (fill_of t.columns) members ≡ Ok f → grid_from 0 t.matrices ≡ Ok g → IsCell cell → t.columns ≤ index cell.column
    → (slice_get g (place cell) ≡ Some None) × (cell ≢ s) × All (λ fill. cell ≢ fill) f
lacks members t s f g cell rows spaced filled gridded is beyond =
    let a = at_key_read key.Rows sheet_of members t rows in
    let b = at_key_read key.Space (cell_of_data t.columns) members s spaced in
    let c = at_key_read key.Fill (fill_of t.columns) members f filled in
    let fills = array_read 1 4 (cell_of_data t.columns) c.from f c.is in
    let blank = sheet_blank (index cell.column) (cell.row - 1) (index_small cell.column) (omega (arith, is.0, is.1)) a.from t a.is beyond in (
      grid_blank 0 t.matrices g (place cell) gridded blank,
      other_cell t.columns cell s (named_index t.columns b.from s b.is) beyond,
      all_read (λ fill. cell ≢ fill) (cell_of_data t.columns) (λ d fill e. other_cell t.columns cell fill (named_index t.columns d fill e) beyond) fills.items f fills.each,
    )

same_sheet : (t s : Sheet) (r : Result Sheet CaseFault) → r ≡ Ok t → r ≡ Ok s → t ≡ s
same_sheet t s r p q = cc

pub narrow : NarrowCasesLackColumns
narrow members sheet case rows read cell is beyond =
    let (n, numbered, e1) = bound (at_key key.Case (number_of 1 65535) members) _ case read in
    let (t, sheeted, e2) = bound (at_key key.Rows sheet_of members) _ case e1 in
    let (s, spaced, e3) = bound (at_key key.Space (cell_of_data t.columns) members) _ case e2 in
    let (f, filled, e4) = bound (at_key key.Fill (fill_of t.columns) members) _ case e3 in
    let (g, gridded, e5) = bound (grid_from 0 t.matrices) _ case e4 in
    let (h, single, e6) = bound (unless Doubled (first_doubled g) g) _ case e5 in
    let same_grid : g ≡ h = kept Doubled (first_doubled g) g h single in
    let made = kept NotBlank (first_held h (s ∷ f)) (case_made n h s f) case e6 in
    let same = same_sheet t sheet (at_key key.Rows sheet_of members) sheeted rows in
    let low : t.columns ≤ index cell.column = subst (λ (x : Sheet). x.columns ≤ index cell.column) (sym same) beyond in
    let all = lacks members t s f g cell sheeted spaced filled gridded is low in
    subst (λ (c : CaseValues). (symbol_at c cell ≡ None) × (cell ≢ c.space) × All (λ fill. cell ≢ fill) c.fill) made
    (ap (λ (grid : Grid). option_flatten (slice_get grid (place cell))) (sym same_grid) ∙ ap option_flatten all.0, all.1, all.2)
