-- Reading the rows of a case, text by text, and what their cells hold.
use Rattle.std.proofs.Common.{◌≡◌, ◌≢◌, ◌∙◌, ℕ, ◌+◌, ◌≤◌, ◌<◌, true, false, List, [], ◌∷◌, ◌++◌, length, drop, get_or, Option, Some, None, Result, Ok, Err, refl, sym, ap, append_assoc, arith}
use Rattle.std.specs.Prelude.{map, option_map, nat_le, replicate, ◌-◌, ◌&&◌}
use Rattle.std.specs.List.{flat_map}
use Rattle.std.proofs.lemmas.Bool.{true≢false, false≢true}
use Rattle.std.proofs.lemmas.Bool.Decides.{nat_tests}
use Rattle.std.proofs.lemmas.List.{append-nil, map-append}
use Rattle.toml.specs.Data.{Data, as_str, as_array}
use Rattle.toml.specs.declared.value.Value.{Value}
use Rattle.toml.specs.View.{view, items_view}
use Rattle.desk_ops.specs.declared.op.Symbol.{Symbol}
use Rattle.desk_case.specs.declared.CaseFault.{CaseFault}
use Rattle.desk_case.specs.File.{row_of, matrix_of, cells_of, matrices_of, grid_from}
use Rattle.desk_case.specs.Reading.{AddsRow}
use Rattle.desk_wedge.proofs.Items.{AreReadTo, one_read, fault_read, all_read, each_length, right_length, wrong_length}

abbrev pub Matrices : Type 0
Matrices = List (Option (Option Symbol))

-- a row, some of whose texts have been added
pub record IsRowReadTo (vs : List Value) (i : ℕ) (before after : Matrices) : Type 0 where
  pub prefix : List (List ℕ)
  pub grown : after ≡ before ++ map matrix_of prefix
  pub so_far : AreReadTo as_str vs i prefix

pub text_read : (vs : List Value) (i : ℕ) (before after more : Matrices) (v : Value) (t : List ℕ) → i < length vs → v ≡ get_or vs i v → Some t ≡ as_str (view v)
    → more ≡ after ++ matrix_of t ∷ [] → IsRowReadTo vs i before after → IsRowReadTo vs (i + 1) before more
text_read vs i before after more v t within is said grown h = record {
  prefix = h.prefix ++ t ∷ [];
  grown = grown ∙ ap (λ x. x ++ matrix_of t ∷ []) h.grown ∙ append_assoc before (map matrix_of h.prefix) (matrix_of t ∷ [])
      ∙ ap (λ x. before ++ x) (sym (map-append matrix_of h.prefix (t ∷ [])));
  so_far = one_read as_str vs i h.prefix v t within is said h.so_far;
}

not_row : (before after : Matrices) (o : Option (List (List ℕ))) → None ≡ o → AddsRow before after o false
not_row before after None e = refl
not_row before after (Some texts) e = absurd (cc)

pub short_row : (columns : ℕ) (vs : List Value) (d : Data) (before after : Matrices) → Some (items_view vs) ≡ as_array d → length vs ≢ columns → AddsRow before after (row_of columns d) false
short_row columns vs d before after array other =
    let outside : (nat_le columns (length vs) && nat_le (length vs) columns) ≡ false = grind (arith, nat_tests) in
    not_row before after (row_of columns d) (rw (← array) (wrong_length as_str vs columns columns outside))

adds : (before after : Matrices) (o : Option (List (List ℕ))) (prefix : List (List ℕ)) → Some prefix ≡ o → after ≡ before ++ cells_of prefix → AddsRow before after o true
adds before after None prefix e grown = absurd (cc)
adds before after (Some texts) prefix e grown = let same : prefix ≡ texts = cc in (refl, grown ∙ ap (λ x. before ++ cells_of x) same)

padded_row : (before after : Matrices) (prefix : List (List ℕ)) (columns blanks : ℕ) → after ≡ before ++ map matrix_of prefix → length prefix ≡ columns → blanks ≡ 17 - columns
    → after ++ replicate blanks (Some None) ≡ before ++ cells_of prefix
padded_row before after prefix columns blanks grown long is =
    let same : blanks ≡ 17 - length prefix = omega (arith, long, is) in
    ap (λ x. x ++ replicate blanks (Some None)) grown ∙ append_assoc before (map matrix_of prefix) (replicate blanks (Some None))
    ∙ ap (λ n. before ++ (map matrix_of prefix ++ replicate n (Some None))) same

pub row_read : (columns : ℕ) (vs : List Value) (i : ℕ) (d : Data) (before after last : Matrices) (blanks : ℕ) → Some (items_view vs) ≡ as_array d → length vs ≡ columns → length vs ≤ i
    → blanks ≡ 17 - columns → last ≡ after ++ replicate blanks (Some None) → IsRowReadTo vs i before after → AddsRow before last (row_of columns d) true
row_read columns vs i d before after last blanks array long end is padded h =
    let all = all_read as_str vs i h.prefix end h.so_far in
    let same : length h.prefix ≡ columns = each_length as_str vs h.prefix all ∙ long in
    adds before last (row_of columns d) h.prefix (rw (← array) (right_length as_str vs i columns columns h.prefix end h.so_far (omega arith) (omega arith)))
    (padded ∙ padded_row before after h.prefix columns blanks h.grown same is)

-- rows, some of which have been added
pub record AreRowsReadTo (columns : ℕ) (vs : List Value) (i : ℕ) (matrices : Matrices) : Type 0 where
  pub prefix : List (List (List ℕ))
  pub grown : matrices ≡ flat_map cells_of prefix
  pub so_far : AreReadTo (row_of columns) vs i prefix

row_behind : (rows : List (List (List ℕ))) (row : List (List ℕ)) → flat_map cells_of (rows ++ row ∷ []) ≡ flat_map cells_of rows ++ cells_of row
row_behind [] row = append-nil (cells_of row)
row_behind (r ∷ rows) row = ap (λ x. cells_of r ++ x) (row_behind rows row) ∙ sym (append_assoc (cells_of r) (flat_map cells_of rows) (cells_of row))

row_added_at : (columns : ℕ) (vs : List Value) (i : ℕ) (before after : Matrices) (v : Value) (o : Option (List (List ℕ))) → row_of columns (view v) ≡ o → i < length vs → v ≡ get_or vs i v
    → AddsRow before after o true → AreRowsReadTo columns vs i before → AreRowsReadTo columns vs (i + 1) after
row_added_at columns vs i before after v None said within is added h = absurd (true≢false added)
row_added_at columns vs i before after v (Some texts) said within is added h = record {
  prefix = h.prefix ++ texts ∷ [];
  grown = added.1 ∙ ap (λ x. x ++ cells_of texts) h.grown ∙ sym (row_behind h.prefix texts);
  so_far = one_read (row_of columns) vs i h.prefix v texts within is (sym said) h.so_far;
}

pub row_added : (columns : ℕ) (vs : List Value) (i : ℕ) (before after : Matrices) (v : Value) → i < length vs → v ≡ get_or vs i v → AddsRow before after (row_of columns (view v)) true
    → AreRowsReadTo columns vs i before → AreRowsReadTo columns vs (i + 1) after
row_added columns vs i before after v within is added h = row_added_at columns vs i before after v (row_of columns (view v)) refl within is added h

not_added : (before after : Matrices) (o : Option (List (List ℕ))) → AddsRow before after o false → None ≡ o
not_added before after None h = refl
not_added before after (Some texts) h = absurd (false≢true h.0)

pub row_missing : (columns : ℕ) (vs : List Value) (i : ℕ) (d : Data) (before after : Matrices) (v : Value) → Some (items_view vs) ≡ as_array d → i < length vs → v ≡ get_or vs i v
    → AddsRow before after (row_of columns (view v)) false → AreRowsReadTo columns vs i before → None ≡ matrices_of columns d
row_missing columns vs i d before after v array within is missing h =
    let none = fault_read (row_of columns) vs i h.prefix v within is (not_added before after (row_of columns (view v)) missing) h.so_far in
    rw (← array, none) refl

pub few_rows : (columns : ℕ) (vs : List Value) (d : Data) → Some (items_view vs) ≡ as_array d → length vs ≢ 15 → None ≡ matrices_of columns d
few_rows columns vs d array other =
    let outside : (nat_le 15 (length vs) && nat_le (length vs) 15) ≡ false = grind (arith, nat_tests) in
    rw (← array) (ap (option_map (λ rows. flat_map cells_of rows)) (wrong_length (row_of columns) vs 15 15 outside))

pub rows_read : (columns : ℕ) (vs : List Value) (i : ℕ) (d : Data) (matrices : Matrices) → Some (items_view vs) ≡ as_array d → length vs ≡ 15 → length vs ≤ i
    → AreRowsReadTo columns vs i matrices → Some matrices ≡ matrices_of columns d
rows_read columns vs i d matrices array long end h =
    ap Some h.grown
    ∙ rw (← array) (ap (option_map (λ rows. flat_map cells_of rows)) (right_length (row_of columns) vs i 15 15 h.prefix end h.so_far (omega arith) (omega arith)))

-- what the cells hold, behind those already read
abbrev pub behind : List (Option Symbol) → Result (List (Option Symbol)) CaseFault → Result (List (Option Symbol)) CaseFault
behind prefix (Ok grid) = Ok (prefix ++ grid)
behind prefix (Err e) = Err e

pub record IsGridReadTo (ms : Matrices) (i : ℕ) (prefix : List (Option Symbol)) : Type 0 where
  pub so_far : grid_from 0 ms ≡ behind prefix (grid_from i (drop i ms))
