-- The texts of a row and the rows of a case, counted one after another.
use Rattle.std.proofs.Common.{◌≡◌, ◌≢◌, ◌∙◌, ℕ, suc, ◌+◌, ◌≤◌, ◌<◌, List, [], ◌∷◌, ◌++◌, length, drop, get_or, Option, Some, None, refl, sym, ap, arith}
use Rattle.std.specs.Prelude.{◌==◌, true, false, option_and_then, option_map}
use Rattle.std.proofs.lemmas.Bool.Decides.{nat_tests}
use Rattle.std.proofs.Math.ListN.{drop_of_length-le}
use Rattle.toml.specs.Data.{Data, Items, as_array, as_str, item, no_items}
use Rattle.toml.specs.declared.value.Value.{Value}
use Rattle.toml.specs.View.{view, items_view}
use Rattle.toml.proofs.Views.{items_view-drop}
use Rattle.desk_wedge.specs.Items.{each_of}
use Rattle.desk_wedge.proofs.Items.{AreReadTo, all_read, each_length, fault_read, none_read, one_read}
use Rattle.feed_check.specs.Rows.{count, first_row, row_or, rows_fault_of, texts_in, wanted_by}
use Rattle.feed_check.specs.declared.rows.RowsFault.{RowsFault}
use Rattle.feed_check.specs.declared.rows.RowsFault.TheVariants as faults

-- the texts of a row before an index
pub record AreTextsTo (vs : List Value) (i : ℕ) : Type 0 where
  pub prefix : List (List ℕ)
  pub so_far : AreReadTo as_str vs i prefix

pub text_more : (vs : List Value) (i : ℕ) (v : Value) (t : List ℕ) → i < length vs → v ≡ get_or vs i v → Some t ≡ as_str (view v) → AreTextsTo vs i → AreTextsTo vs (i + 1)
text_more vs i v t within is said h = record { prefix = h.prefix ++ t ∷ []; so_far = one_read as_str vs i h.prefix v t within is said h.so_far }

pub all_texts : (vs : List Value) (i : ℕ) (d : Data) → Some (items_view vs) ≡ as_array d → length vs ≤ i → AreTextsTo vs i → Some (length vs) ≡ texts_in d
all_texts vs i d array end h =
    let all = all_read as_str vs i h.prefix end h.so_far in
    let long = each_length as_str vs h.prefix all in
    rw (← array, all, long) refl

pub count_is : (vs : List Value) → count (items_view vs) ≡ length vs
count_is [] = refl
count_is (v ∷ vs) = ap suc (count_is vs)

-- rows of another number
pub other_count : (vs : List Value) (d : Data) (n : ℕ) → Some (items_view vs) ≡ as_array d → length vs ≢ 15 → n ≡ length vs → Some (faults.Rows n) ≡ rows_fault_of d
other_count vs d n array other is =
    let differs : (count (items_view vs) == 15) ≡ false = rw (count_is vs) (grind (arith, nat_tests)) in
    rw (← array, differs) (ap (λ k. Some (faults.Rows k)) (is ∙ sym (count_is vs)))

-- rows of the right number
pub right_count : (vs wanted_rows first_rows : List Value) (d : Data) (wanted : ℕ) (found : Option RowsFault) → Some (items_view vs) ≡ as_array d → first_rows ≡ vs → wanted_rows ≡ vs → length vs ≡ 15
    → wanted ≡ wanted_by (items_view wanted_rows) → found ≡ first_row wanted 1 (items_view first_rows) → found ≡ rows_fault_of d
right_count vs wanted_rows first_rows d wanted found array first_is wanted_is long by is =
    let equal : (count (items_view vs) == 15) ≡ true = rw (count_is vs) (grind (arith, nat_tests)) in
    let now = is ∙ ap (λ n. first_row n 1 (items_view first_rows)) by ∙ ap (λ rows. first_row (wanted_by (items_view rows)) 1 (items_view first_rows)) wanted_is ∙ ap (λ rows. first_row (wanted_by (items_view vs)) 1 (items_view rows)) first_is in
    rw (← array, equal) now
