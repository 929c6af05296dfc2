-- What a test over the table of all rows says of each row.
use Rattle.std.proofs.Common.{◌≡◌, ℕ, ◌+◌, ◌-◌, ◌*◌, ◌/◌, ◌%◌, ◌<◌, ◌≤◌, Bool, true, false, not, ◌&&◌, eqb, length, get_or, refl, sym, ap, subst, ◌∙◌, Option, Some, None, eqb-true, arith}
use Rattle.std.specs.Prelude.{if◌then◌else◌, sum_by}
use Rattle.std.specs.List.{list_all, range_with_len}
use Rattle.std.proofs.lemmas.List.FromFn.{get_or-range_with_len}
use Rattle.std.proofs.lemmas.List.Sums.{AllPass-from_list_all}
use Rattle.std.proofs.lemmas.Bool.{and_parts, not-true}
use Rattle.desk_signals.specs.declared.BadRow.{BadRow}
use Rattle.desk_signals.specs.declared.Column.{Column}
use Rattle.desk_signals.specs.declared.Column.TheVariants as column
use Rattle.desk_signals.specs.declared.Signal.{Signal}
use Rattle.desk_signals.specs.declared.RibbonRow.{RibbonRow}
use Rattle.desk_signals.specs.declared.RibbonRow.TheVariants.{Cell, Coarse, FineOut}
use Rattle.desk_signals.specs.Columns.{the_columns, index}
use Rattle.desk_signals.specs.Rows.{IsRow, signals_of, place, is_letter, is_number, repeats, fault_of}

pub at_column : (c : Column) → get_or the_columns (index c) column.O ≡ c
at_column column.A = refl
at_column column.B = refl
at_column column.C = refl
at_column column.D = refl
at_column column.E = refl
at_column column.F = refl
at_column column.G = refl
at_column column.H = refl
at_column column.I = refl
at_column column.J = refl
at_column column.K = refl
at_column column.L = refl
at_column column.M = refl
at_column column.N = refl
at_column column.O = refl
at_column column.NI = refl
at_column column.NL = refl

pub index_within : (c : Column) → index c < length the_columns
index_within column.A = omega arith
index_within column.B = omega arith
index_within column.C = omega arith
index_within column.D = omega arith
index_within column.E = omega arith
index_within column.F = omega arith
index_within column.G = omega arith
index_within column.H = omega arith
index_within column.I = omega arith
index_within column.J = omega arith
index_within column.K = omega arith
index_within column.L = omega arith
index_within column.M = omega arith
index_within column.N = omega arith
index_within column.O = omega arith
index_within column.NI = omega arith
index_within column.NL = omega arith

-- a test over all rows
abbrev pub all_pass : (RibbonRow → Bool) → Bool
all_pass test =
    list_all (λ n. list_all (λ c. test (Cell c n true) && test (Cell c n false)) the_columns && (test (Coarse n) && test (FineOut n))) (range_with_len 1 15)

number_passes : (p : ℕ → Bool) → list_all p (range_with_len 1 15) ≡ true → (n : ℕ) → 1 ≤ n → n ≤ 15 → p n ≡ true
number_passes p e n low high =
    let is : get_or (range_with_len 1 15) (n - 1) 0 ≡ n = get_or-range_with_len 1 15 (n - 1) 0 (omega arith) ∙ omega arith in
    subst (λ k. p k ≡ true) is (AllPass-from_list_all p (range_with_len 1 15) e (n - 1) 0 (omega arith))

column_passes : (p : Column → Bool) → list_all p the_columns ≡ true → (c : Column) → p c ≡ true
column_passes p e c =
    subst (λ d. p d ≡ true) (at_column c) (AllPass-from_list_all p the_columns e (index c) column.O (index_within c))

at_s : (test : RibbonRow → Bool) (c : Column) (n : ℕ) (s : Bool) → (test (Cell c n true) ≡ true) × (test (Cell c n false) ≡ true) → test (Cell c n s) ≡ true
at_s test c n true e = e.0
at_s test c n false e = e.1

pub row_passes : (test : RibbonRow → Bool) → all_pass test ≡ true → (row : RibbonRow) → IsRow row → test row ≡ true
row_passes test e (Cell c n s) (low, high) =
    let parts = and_parts _ _ (number_passes (λ n. list_all (λ c. test (Cell c n true) && test (Cell c n false)) the_columns && (test (Coarse n) && test (FineOut n))) e n low high) in
    at_s test c n s (and_parts _ _ (column_passes (λ c. test (Cell c n true) && test (Cell c n false)) parts.0 c))
row_passes test e (Coarse n) (low, high) =
    let parts = and_parts _ _ (number_passes (λ n. list_all (λ c. test (Cell c n true) && test (Cell c n false)) the_columns && (test (Coarse n) && test (FineOut n))) e n low high) in
    (and_parts _ _ parts.1).0
row_passes test e (FineOut n) (low, high) =
    let parts = and_parts _ _ (number_passes (λ n. list_all (λ c. test (Cell c n true) && test (Cell c n false)) the_columns && (test (Coarse n) && test (FineOut n))) e n low high) in
    (and_parts _ _ parts.1).1

-- no row has a signal twice
pub row_once : (row : RibbonRow) → IsRow row → repeats (signals_of row) ≡ false
row_once row is = not-true (repeats (signals_of row)) (row_passes (λ row. not (repeats (signals_of row))) refl row is)

abbrev no_fault : Option BadRow → Bool
no_fault None = true
no_fault (Some why) = false

was_none : (o : Option BadRow) → no_fault o ≡ true → o ≡ None
was_none None e = refl
was_none (Some why) e = absurd (cc)

-- the signals of a row have no fault
pub row_faultless : (row : RibbonRow) → IsRow row → fault_of (signals_of row) ≡ None
row_faultless row is = was_none (fault_of (signals_of row)) (row_passes (λ row. no_fault (fault_of (signals_of row))) refl row is)

-- a weight of each signal, so that the sum gives the row
abbrev pub weight : Signal → ℕ
weight x =
    if is_letter x then 256 * (place x + 1)
    else if is_number x then 16 * (place x - 13)
    else if eqb (place x) 28 then 4
    else if eqb (place x) 29 then 2
    else 1

abbrev pub number_in : ℕ → ℕ
number_in n = if eqb n 0 then 15 else n

abbrev pub column_in : ℕ → Column
column_in n =
    if eqb n 0 then column.O
    else if eqb n 23 then column.NI
    else if eqb n 26 then column.NL
    else get_or the_columns (n - 1) column.O

abbrev pub row_in : ℕ → RibbonRow
row_in sum =
    if eqb (sum % 8) 2 then Coarse (number_in (sum / 16 % 16))
    else if eqb (sum % 8) 6 then FineOut (number_in (sum / 16 % 16))
    else Cell (column_in (sum / 256)) (number_in (sum / 16 % 16)) (eqb (sum % 8) 1)

abbrev same_bool : Bool → Bool → Bool
same_bool true b = b
same_bool false b = not b

same_bool-eq : (a b : Bool) → same_bool a b ≡ true → a ≡ b
same_bool-eq true b e = sym e
same_bool-eq false b e = sym (not-true b e)

abbrev same_row : RibbonRow → RibbonRow → Bool
same_row (Cell c n s) (Cell d m t) = eqb (index c) (index d) && (eqb n m && same_bool s t)
same_row (Cell c n s) (Coarse m) = false
same_row (Cell c n s) (FineOut m) = false
same_row (Coarse n) (Cell d m t) = false
same_row (Coarse n) (Coarse m) = eqb n m
same_row (Coarse n) (FineOut m) = false
same_row (FineOut n) (Cell d m t) = false
same_row (FineOut n) (Coarse m) = false
same_row (FineOut n) (FineOut m) = eqb n m

same_column : (c d : Column) → eqb (index c) (index d) ≡ true → c ≡ d
same_column c d e =
    sym (at_column c) ∙ (ap (λ (n : ℕ). get_or the_columns n column.O) (eqb-true (index c) (index d) e) ∙ at_column d)

same_row-eq : (a b : RibbonRow) → same_row a b ≡ true → a ≡ b
same_row-eq (Cell c n s) (Cell d m t) e =
    let first = and_parts _ _ e in
    let second = and_parts _ _ first.1 in
    ap (λ (c : Column). Cell c n s) (same_column c d first.0)
    ∙ (ap (λ (n : ℕ). Cell d n s) (eqb-true n m second.0) ∙ ap (λ (s : Bool). Cell d m s) (same_bool-eq s t second.1))
same_row-eq (Cell c n s) (Coarse m) e = absurd (cc)
same_row-eq (Cell c n s) (FineOut m) e = absurd (cc)
same_row-eq (Coarse n) (Cell d m t) e = absurd (cc)
same_row-eq (Coarse n) (Coarse m) e = ap (λ (n : ℕ). Coarse n) (eqb-true n m e)
same_row-eq (Coarse n) (FineOut m) e = absurd (cc)
same_row-eq (FineOut n) (Cell d m t) e = absurd (cc)
same_row-eq (FineOut n) (Coarse m) e = absurd (cc)
same_row-eq (FineOut n) (FineOut m) e = ap (λ (n : ℕ). FineOut n) (eqb-true n m e)

pub row_weighed : (row : RibbonRow) → IsRow row → row_in (sum_by weight (signals_of row)) ≡ row
row_weighed row is = same_row-eq _ row (row_passes (λ row. same_row (row_in (sum_by weight (signals_of row))) row) refl row is)
