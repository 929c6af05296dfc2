-- Columns and their indices.
use Rattle.std.proofs.Common.{◌≡◌, ◌∙◌, ℕ, ◌<◌, true, eqb, eqb-true, get_or, Some, refl, sym, ap, subst, arith}
use Rattle.std.specs.List.{range_with_len}
use Rattle.std.proofs.lemmas.List.FromFn.{get_or-range_with_len}
use Rattle.std.proofs.lemmas.List.Sums.{AllPass-from_list_all}
use Rattle.std.proofs.lemmas.Option.{slice_get_within, slice_get-get_or, get_or_from_slice_get}
use Rattle.desk_signals.specs.declared.Column.{Column}
use Rattle.desk_signals.specs.declared.Column.TheVariants as column
use Rattle.desk_signals.specs.Columns.{the_columns, column_at, index}
use Rattle.desk_signals.proofs.Table.{at_column, index_within}

pub index_small : (c : Column) → index c < 17
index_small c = index_within c

pub column_back : (c : Column) → column_at (index c) ≡ Some c
column_back c = slice_get-get_or the_columns (index c) column.O (index_within c) ∙ ap (λ (d : Column). Some d) (at_column c)

pub column_there : (n : ℕ) → n < 17 → (c : Column) × (column_at n ≡ Some c)
column_there n h = (get_or the_columns n column.O, slice_get-get_or the_columns n column.O h)

-- each column stands at its index
listed_at : (n : ℕ) → n < 17 → index (get_or the_columns n column.O) ≡ n
listed_at n below =
    let is : get_or (range_with_len 0 17) n 0 ≡ n = get_or-range_with_len 0 17 n 0 below ∙ omega arith in
    eqb-true _ _
    (subst (λ (k : ℕ). eqb (index (get_or the_columns k column.O)) k ≡ true) is
    (AllPass-from_list_all (λ (k : ℕ). eqb (index (get_or the_columns k column.O)) k) (range_with_len 0 17) refl n 0 below))

pub index_back : (n : ℕ) (c : Column) → column_at n ≡ Some c → index c ≡ n
index_back n c e =
    let is : get_or the_columns n column.O ≡ c = get_or_from_slice_get the_columns n c column.O e in
    ap index (sym is) ∙ listed_at n (slice_get_within the_columns n c e)
