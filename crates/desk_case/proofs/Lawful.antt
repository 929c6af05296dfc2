-- The values of a file are a case's.
use Rattle.std.proofs.Common.{◌≡◌, ◌∙◌, ℕ, ◌+◌, ◌*◌, Bool, true, false, if◌then◌else◌, List, [], ◌∷◌, length, Option, Some, None, Result, Ok, Err, refl, sym, ap, subst, length-append, arith}
use Rattle.std.specs.Prelude.{map, nat_lt, ◌-◌, ◌≤◌, replicate, option_map, option_and_then, is_some, All}
use Rattle.std.specs.List.{flat_map}
use Rattle.std.proofs.lemmas.List.Elements.{All-cons, All-nil, All-head, All-tail}
use Rattle.std.proofs.lemmas.List.{length-map, length-replicate}
use Rattle.toml.specs.Data.{Data, Members, as_str}
use Rattle.desk_signals.specs.declared.Cell.{Cell}
use Rattle.desk_signals.specs.Columns.{index}
use Rattle.desk_ops.specs.declared.op.Symbol.{Symbol}
use Rattle.desk_ops.proofs.Lists.{none_of}
use Rattle.desk_wedge.specs.Keys.{◌>>=◌, number_of}
use Rattle.desk_wedge.specs.Items.{array_of}
use Rattle.desk_wedge.proofs.Values.{IsReadFrom, value_read, IsArrayOf, array_read, all_read}
use Rattle.desk_wedge.proofs.Numbers.{number_range}
use Rattle.desk_case.specs.declared.CaseKey.{CaseKey}
use Rattle.desk_case.specs.declared.CaseKey.TheVariants as key
use Rattle.desk_case.specs.declared.CaseFault.{CaseFault}
use Rattle.desk_case.specs.declared.CaseFault.TheVariants.{Missing, Shape}
use Rattle.desk_case.specs.Names.{cell_named, IsCell}
use Rattle.desk_case.specs.Case.{symbol_in, IsCase}
use Rattle.desk_case.specs.File.{Sheet, key_name, row_of, cell_within, cell_of_data, fill_of, at_key, matrix_of, cells_of, matrices_of, or_else, sheet_in, sheet_of, grid_from, first_doubled, first_held}
use Rattle.desk_case.proofs.Cells.{named_is}
use Rattle.desk_case.proofs.Grids.{Grid, distinct}

pub at_key_read : {A : Type 0} (k : CaseKey) (read : Data → Option A) (ms : Members) (a : A) → at_key k read ms ≡ Ok a → IsReadFrom read a
at_key_read k read ms a e = value_read (key_name k) (Missing k) (Shape k) read ms a e

-- each row fills the columns
row_length : (columns : ℕ) → columns ≤ 17 → (d : Data) (texts : List (List ℕ)) → row_of columns d ≡ Some texts → length (cells_of texts) ≡ 17
row_length columns few d texts e =
    let a = array_read columns columns as_str d texts e in
    omega (arith, few, a.least, a.most, length-append (map matrix_of texts) (replicate (17 - length texts) (Some None)), length-map texts matrix_of, length-replicate (17 - length texts) blank)
  where
    blank : Option (Option Symbol)
    blank = Some None

lengths_joined : (rows : List (List (List ℕ))) → All (λ r. length (cells_of r) ≡ 17) rows → length (flat_map cells_of rows) ≡ 17 * length rows
lengths_joined [] all = refl
lengths_joined (r ∷ rows) all =
    omega (
      arith,
      length-append (cells_of r) (flat_map cells_of rows),
      All-head (λ r. length (cells_of r) ≡ 17) r rows all,
      lengths_joined rows (All-tail (λ r. length (cells_of r) ≡ 17) r rows all),
    )

rows_length : (columns : ℕ) → columns ≤ 17 → (rows : List (List (List ℕ))) → IsArrayOf 15 15 (row_of columns) rows → length (flat_map cells_of rows) ≡ 255
rows_length columns few rows a =
    omega (arith, a.least, a.most, lengths_joined rows (all_read (λ r. length (cells_of r) ≡ 17) (row_of columns) (row_length columns few) a.items rows a.each))

matrices_length_at : (columns : ℕ) → columns ≤ 17 → (ms : List (Option (Option Symbol))) (d : Data) (o : Option (List (List (List ℕ)))) → array_of 15 15 (row_of columns) d ≡ o
    → option_map (λ rows. flat_map cells_of rows) o ≡ Some ms → length ms ≡ 255
matrices_length_at columns few ms d None reported e = cc
matrices_length_at columns few ms d (Some rows) reported e =
    let same : flat_map cells_of rows ≡ ms = cc in
    ap length (sym same) ∙ rows_length columns few rows (array_read 15 15 (row_of columns) d rows reported)

matrices_length : (columns : ℕ) → columns ≤ 17 → (d : Data) (ms : List (Option (Option Symbol))) → matrices_of columns d ≡ Some ms → length ms ≡ 255
matrices_length columns few d ms e = matrices_length_at columns few ms d (array_of 15 15 (row_of columns) d) refl e

abbrev sheet_made : ℕ → List (Option (Option Symbol)) → Sheet
sheet_made columns ms = record { columns = columns; matrices = ms }

sheet_in_length : (columns : ℕ) → (s : Sheet) (o : Option (List (Option (Option Symbol)))) → ((ms : List (Option (Option Symbol))) → o ≡ Some ms → length ms ≡ 255)
    → option_map (λ ms. sheet_made columns ms) o ≡ Some s → length s.matrices ≡ 255
sheet_in_length columns s None long e = cc
sheet_in_length columns s (Some ms) long e =
    let same : sheet_made columns ms ≡ s = cc in
    ap (λ (x : Sheet). length x.matrices) (sym same) ∙ long ms refl

either_length : (s : Sheet) (o rest : Option Sheet) → (o ≡ Some s → length s.matrices ≡ 255) → (rest ≡ Some s → length s.matrices ≡ 255) → or_else o rest ≡ Some s
    → length s.matrices ≡ 255
either_length s None rest first second e = second e
either_length s (Some t) rest first second e = first e

pub sheet_length : (d : Data) (s : Sheet) → sheet_of d ≡ Some s → length s.matrices ≡ 255
sheet_length d s e =
    either_length s (sheet_in 15 d) (sheet_in 17 d)
    (λ f. sheet_in_length 15 s (matrices_of 15 d) (λ ms g. matrices_length 15 (omega arith) d ms g) f)
    (λ f. sheet_in_length 17 s (matrices_of 17 d) (λ ms g. matrices_length 17 (omega arith) d ms g) f) e

pub key_length : (members : Members) (s : Sheet) → at_key key.Rows sheet_of members ≡ Ok s → length s.matrices ≡ 255
key_length members s e = let r = at_key_read key.Rows sheet_of members s e in sheet_length r.from s r.is

-- as many cells as texts
rest_length : (m : Option Symbol) (r : Result Grid CaseFault) (g : Grid) (k : ℕ) → ((rest : Grid) → r ≡ Ok rest → length rest ≡ k) → (r >>= (λ rest. Ok (m ∷ rest))) ≡ Ok g
    → length g ≡ k + 1
rest_length m (Err f) g k ih e = cc
rest_length m (Ok rest) g k ih e = let same : g ≡ m ∷ rest = cc in rw same (omega (arith, ih rest refl))

pub grid_length : (n : ℕ) (ms : List (Option (Option Symbol))) (g : Grid) → grid_from n ms ≡ Ok g → length g ≡ length ms
grid_length n [] g e = let same : g ≡ [] = cc in rw same refl
grid_length n (None ∷ ms) g e = cc
grid_length n (Some m ∷ ms) g e = omega (arith, rest_length m (grid_from (n + 1) ms) g (length ms) (λ rest e. grid_length (n + 1) ms rest e) e)

-- cells that are named are cells of a case
within_cell : (columns : ℕ) (c d : Cell) (b : Bool) → (if b then Some d else None) ≡ Some c → d ≡ c
within_cell columns c d true e = cc
within_cell columns c d false e = cc

named_within_at : (columns : ℕ) (c : Cell) (o : Option Cell) → ((d : Cell) → o ≡ Some d → IsCell d) → option_and_then (λ cell. if nat_lt (index cell.column) columns then Some cell else None) o ≡ Some c → IsCell c
named_within_at columns c None each e = cc
named_within_at columns c (Some d) each e =
    subst (λ (x : Cell). IsCell x) (within_cell columns c d (nat_lt (index d.column) columns) e) (each d refl)

named_cell_at : (columns : ℕ) (o : Option (List ℕ)) (c : Cell) → option_and_then (cell_within columns) o ≡ Some c → IsCell c
named_cell_at columns None c e = cc
named_cell_at columns (Some text) c e = named_within_at columns c (cell_named text) (λ d f. (named_is text d f).1) e

pub named_cell : (columns : ℕ) (d : Data) (c : Cell) → cell_of_data columns d ≡ Some c → IsCell c
named_cell columns d c e = named_cell_at columns (as_str d) c e

-- none of some cells holds a symbol
blank_cells_at : (g : Grid) (c : Cell) (cs : List Cell) (b : Bool) → is_some (symbol_in g c) ≡ b → (first_held g cs ≡ None → All (λ cell. symbol_in g cell ≡ None) cs)
    → (if b then Some c else first_held g cs) ≡ None → All (λ cell. symbol_in g cell ≡ None) (c ∷ cs)
blank_cells_at g c cs true test ih e = cc
blank_cells_at g c cs false test ih e = All-cons (λ cell. symbol_in g cell ≡ None) c cs (none_of (symbol_in g c) test) (ih e)

pub blank_cells : (g : Grid) (cs : List Cell) → first_held g cs ≡ None → All (λ cell. symbol_in g cell ≡ None) cs
blank_cells g [] e = All-nil (λ cell. symbol_in g cell ≡ None)
blank_cells g (c ∷ cs) e = blank_cells_at g c cs (is_some (symbol_in g c)) refl (blank_cells g cs) e

pub lawful : (members : Members) (n : ℕ) (t : Sheet) (s : Cell) (f : List Cell) (g : Grid) → at_key key.Case (number_of 1 65535) members ≡ Ok n
    → at_key key.Rows sheet_of members ≡ Ok t → at_key key.Space (cell_of_data t.columns) members ≡ Ok s → at_key key.Fill (fill_of t.columns) members ≡ Ok f
    → grid_from 0 t.matrices ≡ Ok g → first_doubled g ≡ None → first_held g (s ∷ f) ≡ None → IsCase (record { number = n; grid = g; space = s; fill = f })
lawful members n t s f g numbered rows spaced filled read apart blank =
    let a = at_key_read key.Case (number_of 1 65535) members n numbered in
    let b = at_key_read key.Space (cell_of_data t.columns) members s spaced in
    let c = at_key_read key.Fill (fill_of t.columns) members f filled in
    let fills = array_read 1 4 (cell_of_data t.columns) c.from f c.is in
    let blanks = blank_cells g (s ∷ f) blank in
    record {
      number = number_range 1 65535 a.from n a.is;
      cells = grid_length 0 t.matrices g read ∙ key_length members t rows;
      distinct = distinct g apart;
      space = named_cell t.columns b.from s b.is;
      space_blank = All-head (λ cell. symbol_in g cell ≡ None) s f blanks;
      fills = (fills.least, fills.most);
      fill = all_read IsCell (cell_of_data t.columns) (named_cell t.columns) fills.items f fills.each;
      fill_blank = All-tail (λ cell. symbol_in g cell ≡ None) s f blanks;
    }
