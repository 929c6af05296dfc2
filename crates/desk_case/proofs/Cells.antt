-- Cells and their places, cells and their names.
use Rattle.std.proofs.Common.{◌≡◌, ◌∙◌, ℕ, ◌+◌, ◌-◌, ◌*◌, ◌/◌, ◌%◌, ◌≤◌, ◌<◌, Bool, true, false, ◌&&◌, if◌then◌else◌, List, [], ◌∷◌, ◌++◌, eqb-true, Option, Some, None, refl, sym, ap, arith}
use Rattle.std.specs.Prelude.{◌==◌, nat_le, nat_lt}
use Rattle.std.specs.Option.{unwrap_or}
use Rattle.std.proofs.lemmas.Bool.{le-leb, leb-true}
use Rattle.std.proofs.lemmas.Bool.Decides.{nat_tests}
use Rattle.desk_signals.specs.declared.Column.{Column}
use Rattle.desk_signals.specs.declared.Column.TheVariants as column
use Rattle.desk_signals.specs.declared.Cell.{Cell}
use Rattle.desk_signals.specs.Columns.{index, column_at}
use Rattle.desk_signals.specs.Words.{column_name}
use Rattle.desk_case.specs.Names.{column_of_letter, digits, row_of_digits, name_of, cell_at, cell_named, IsCell, place, cell_of_place}
use Rattle.desk_case.specs.Laws.{NamesAreOneToOne}
use Rattle.desk_case.proofs.Columns.{index_small, column_back, column_there, index_back}

abbrev cell_made : Column → ℕ → Cell
cell_made c r = record { column = c; row = r }

same_cell_made : (c d : Column) (r s : ℕ) → c ≡ d → r ≡ s → cell_made c r ≡ cell_made d s
same_cell_made c d r s p q = cc

-- a place and its cell
pub place_is_cell : (n : ℕ) → n < 255 → IsCell (cell_of_place n)
place_is_cell n h = (omega arith, omega arith)

back_at : (n i : ℕ) (c : Column) → index c ≡ n % 17 → place (cell_made c (n / 17 + 1)) ≡ n
back_at n i c e = omega arith

pub place_back : (n : ℕ) → n < 255 → place (cell_of_place n) ≡ n
place_back n h =
    let some = column_there (n % 17) (omega arith) in
    rw (some.1) (back_at n 0 some.0 (index_back (n % 17) some.0 some.1))

parts_of_place : (r i : ℕ) → 1 ≤ r → i < 17 → ((17 * (r - 1) + i) % 17 ≡ i) × ((17 * (r - 1) + i) / 17 + 1 ≡ r)
parts_of_place r i low high = (omega arith, omega arith)

pub cell_back : (c : Cell) → IsCell c → cell_of_place (place c) ≡ c
cell_back c k =
    let parts = parts_of_place c.row (index c.column) k.0 (index_small c.column) in
    same_cell_made (unwrap_or (column_at (place c % 17)) column.A) c.column (place c / 17 + 1) c.row
    (ap (λ n. unwrap_or (column_at n) column.A) parts.0 ∙ ap (λ o. unwrap_or o column.A) (column_back c.column)) parts.1

-- a cell and its name
parts_of_cell : (oc : Option Column) (or : Option ℕ) (cell : Cell) → cell_at oc or ≡ Some cell → (oc ≡ Some cell.column) × (or ≡ Some cell.row)
parts_of_cell None or cell e = cc
parts_of_cell (Some c) None cell e = cc
parts_of_cell (Some c) (Some r) cell e =
    let same : cell_made c r ≡ cell = cc in
    (ap (λ (x : Cell). Some x.column) same, ap (λ (x : Cell). Some x.row) same)

two_bytes : (l k m n : ℕ) → l ≡ m → k ≡ n → l ∷ k ∷ [] ≡ m ∷ n ∷ []
two_bytes l k m n p q = cc

named_by_letter : (c : Column) → index c < 15 → column_name c ≡ (index c + 65) ∷ []
named_by_letter column.NI h = absurd (omega (arith, h))
named_by_letter column.NL h = absurd (omega (arith, h))
named_by_letter c h = refl

letter_at : (l : ℕ) (c : Column) (a b : Bool) → nat_le 65 l ≡ a → nat_le l 79 ≡ b → (if a && b then column_at (l - 65) else None) ≡ Some c → (l ∷ []) ≡ column_name c
letter_at l c true true low high e =
    let h = leb-true 65 l low in
    let k = leb-true l 79 high in
    let is = index_back (l - 65) c e in
    ap (λ (n : ℕ). n ∷ []) (omega arith) ∙ sym (named_by_letter c (omega arith))
letter_at l c true false low high e = cc
letter_at l c false b low high e = cc

one_digit : (d r : ℕ) (a b : Bool) → nat_le 49 d ≡ a → nat_le d 57 ≡ b → (if a && b then Some (d - 48) else None) ≡ Some r
    → (d ≡ r + 48) × (1 ≤ r) × (r < 10)
one_digit d r true true p q e =
    let low = leb-true 49 d p in
    let high = leb-true d 57 q in
    let is : d - 48 ≡ r = cc in
    (omega arith, omega arith, omega arith)
one_digit d r true false p q e = cc
one_digit d r false b p q e = cc

two_digits : (t d r : ℕ) (a b c : Bool) → (t == 49) ≡ a → nat_le 48 d ≡ b → nat_le d 53 ≡ c → (if a && b && c then Some (d - 38) else None) ≡ Some r
    → (t ≡ 49) × (d ≡ r + 38) × (10 ≤ r) × (r ≤ 15)
two_digits t d r true true true o p q e =
    let one : t ≡ 49 = grind (arith, nat_tests) in
    let low = leb-true 48 d p in
    let high = leb-true d 53 q in
    let is : d - 38 ≡ r = cc in
    (one, omega arith, omega arith, omega arith)
two_digits t d r true true false o p q e = cc
two_digits t d r true false c o p q e = cc
two_digits t d r false b c o p q e = cc

same_one : (d r : ℕ) → d ≡ r + 48 → r < 10 → d ∷ [] ≡ digits r
same_one d r e h = let small : nat_lt r 10 ≡ true = grind (arith, nat_tests) in rw (small, e) refl

same_two : (t d r : ℕ) → t ≡ 49 → d ≡ r + 38 → 10 ≤ r → t ∷ d ∷ [] ≡ digits r
same_two t d r o e h = let large : nat_lt r 10 ≡ false = grind (arith, nat_tests) in rw (large, o, e) refl

digits_at : (ds : List ℕ) (r : ℕ) → row_of_digits ds ≡ Some r → (ds ≡ digits r) × (1 ≤ r) × (r ≤ 15)
digits_at [] r e = cc
digits_at (d ∷ []) r e =
    let parts = one_digit d r (nat_le 49 d) (nat_le d 57) refl refl e in
    (same_one d r parts.0 parts.2, parts.1, omega (arith, parts.2))
digits_at (t ∷ d ∷ []) r e =
    let parts = two_digits t d r (t == 49) (nat_le 48 d) (nat_le d 53) refl refl refl e in
    (same_two t d r parts.0 parts.1 parts.2, omega (arith, parts.2), parts.3)
digits_at (t ∷ d ∷ x ∷ more) r e = cc

named_letter : (l : ℕ) (ds : List ℕ) (cell : Cell) → cell_at (column_of_letter l) (row_of_digits ds) ≡ Some cell → (l ∷ ds ≡ name_of cell) × IsCell cell
named_letter l ds cell e =
    let parts = parts_of_cell (column_of_letter l) (row_of_digits ds) cell e in
    let first = letter_at l cell.column (nat_le 65 l) (nat_le l 79) refl refl parts.0 in
    let rest = digits_at ds cell.row parts.1 in
    (ap (λ (xs : List ℕ). l ∷ xs) rest.0 ∙ ap (λ (xs : List ℕ). xs ++ digits cell.row) first, (rest.1, rest.2))

named_pair : (l k : ℕ) (ds : List ℕ) (c : Column) (cell : Cell) → l ∷ k ∷ [] ≡ column_name c → cell_at (Some c) (row_of_digits ds) ≡ Some cell → (l ∷ k ∷ ds ≡ name_of cell) × IsCell cell
named_pair l k ds c cell named e =
    let parts = parts_of_cell (Some c) (row_of_digits ds) cell e in
    let same : c ≡ cell.column = cc in
    let rest = digits_at ds cell.row parts.1 in
    (ap (λ (xs : List ℕ). l ∷ k ∷ xs) rest.0 ∙ ap (λ (xs : List ℕ). xs ++ digits cell.row) (named ∙ ap column_name same), (rest.1, rest.2))

named_at : (l k : ℕ) (ds : List ℕ) (cell : Cell) (a b c : Bool) → (l == 78) ≡ a → (k == 73) ≡ b → (k == 76) ≡ c
    → (if a && b then cell_at (Some column.NI) (row_of_digits ds) else if a && c then cell_at (Some column.NL) (row_of_digits ds)
    else cell_at (column_of_letter l) (row_of_digits (k ∷ ds))) ≡ Some cell
    → (l ∷ k ∷ ds ≡ name_of cell) × IsCell cell
named_at l k ds cell true true c p q r e = named_pair l k ds column.NI cell (two_bytes l k 78 73 (eqb-true l 78 p) (eqb-true k 73 q)) e
named_at l k ds cell true false true p q r e = named_pair l k ds column.NL cell (two_bytes l k 78 76 (eqb-true l 78 p) (eqb-true k 76 r)) e
named_at l k ds cell true false false p q r e = named_letter l (k ∷ ds) cell e
named_at l k ds cell false b c p q r e = named_letter l (k ∷ ds) cell e

pub named_is : (text : List ℕ) (cell : Cell) → cell_named text ≡ Some cell → (text ≡ name_of cell) × IsCell cell
named_is [] cell e = cc
named_is (l ∷ []) cell e = cc
named_is (l ∷ k ∷ ds) cell e = named_at l k ds cell (l == 78) (k == 73) (k == 76) refl refl refl e

digits_back_at : (r : ℕ) (b : Bool) → nat_lt r 10 ≡ b → 1 ≤ r → r ≤ 15 → row_of_digits (if b then (r + 48) ∷ [] else 49 ∷ (r + 38) ∷ []) ≡ Some r
digits_back_at r true test low high =
    let below : r < 10 = grind (arith, nat_tests) in
    let back : r + 48 - 48 ≡ r = omega arith in
    rw (le-leb 49 (r + 48) (omega arith), le-leb (r + 48) 57 (omega arith), back) refl
digits_back_at r false test low high =
    let above : 10 ≤ r = grind (arith, nat_tests) in
    let back : r + 38 - 38 ≡ r = omega arith in
    rw (le-leb 48 (r + 38) (omega arith), le-leb (r + 38) 53 (omega arith), back) refl

-- the name of each cell, read
past_at : {A : Type 0} (a b c : Bool) (x y z : A) → b ≡ false → c ≡ false → (if a && b then x else if a && c then y else z) ≡ z
past_at true false false x y z p q = refl
past_at true true c x y z p q = absurd (cc)
past_at true false true x y z p q = absurd (cc)
past_at false b c x y z p q = refl

past_pairs : (l k : ℕ) (ds : List ℕ) → k < 60 → cell_named (l ∷ k ∷ ds) ≡ cell_at (column_of_letter l) (row_of_digits (k ∷ ds))
past_pairs l k ds small =
    past_at (l == 78) (k == 73) (k == 76) (cell_at (Some column.NI) (row_of_digits ds)) (cell_at (Some column.NL) (row_of_digits ds))
    (cell_at (column_of_letter l) (row_of_digits (k ∷ ds))) (grind (arith, nat_tests)) (grind (arith, nat_tests))

letter_back : (c : Column) → index c < 15 → column_of_letter (index c + 65) ≡ Some c
letter_back c h =
    let back : index c + 65 - 65 ≡ index c = omega arith in
    rw (le-leb 65 (index c + 65) (omega arith), le-leb (index c + 65) 79 (omega (arith, h)), back) (column_back c)

both_back : (l : ℕ) (ds : List ℕ) (c : Column) (r : ℕ) → column_of_letter l ≡ Some c → row_of_digits ds ≡ Some r
    → cell_at (column_of_letter l) (row_of_digits ds) ≡ Some (cell_made c r)
both_back l ds c r p q = ap (λ o. cell_at o (row_of_digits ds)) p ∙ ap (cell_at (Some c)) q

digits_back : (r : ℕ) → 1 ≤ r → r ≤ 15 → row_of_digits (digits r) ≡ Some r
digits_back r low high = digits_back_at r (nat_lt r 10) refl low high

letter_name_at : (l r : ℕ) (b : Bool) → nat_lt r 10 ≡ b
    → cell_named (l ∷ (if b then (r + 48) ∷ [] else 49 ∷ (r + 38) ∷ [])) ≡ cell_at (column_of_letter l) (row_of_digits (if b then (r + 48) ∷ [] else 49 ∷ (r + 38) ∷ []))
letter_name_at l r true test = let small : r < 10 = grind (arith, nat_tests) in past_pairs l (r + 48) [] (omega (arith, small))
letter_name_at l r false test = past_pairs l 49 ((r + 38) ∷ []) (omega arith)

letter_name_back : (c : Column) (r : ℕ) → index c < 15 → 1 ≤ r → r ≤ 15 → cell_named (name_of (cell_made c r)) ≡ Some (cell_made c r)
letter_name_back c r h low high =
    ap (λ (xs : List ℕ). cell_named (xs ++ digits r)) (named_by_letter c h)
    ∙ (letter_name_at (index c + 65) r (nat_lt r 10) refl ∙ both_back (index c + 65) (digits r) c r (letter_back c h) (digits_back r low high))

name_back_at : (c : Column) (r : ℕ) → 1 ≤ r → r ≤ 15 → cell_named (name_of (cell_made c r)) ≡ Some (cell_made c r)
name_back_at column.NI r low high = ap (cell_at (Some column.NI)) (digits_back r low high)
name_back_at column.NL r low high = ap (cell_at (Some column.NL)) (digits_back r low high)
name_back_at c r low high = letter_name_back c r (omega arith) low high

pub name_back : (cell : Cell) → IsCell cell → cell_named (name_of cell) ≡ Some cell
name_back cell k = name_back_at cell.column cell.row k.0 k.1

pub names : NamesAreOneToOne
names text cell = (named_is text cell, λ h. rw (h.0) (name_back cell h.1))
