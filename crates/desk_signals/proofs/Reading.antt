-- The row that signals without a fault spell.
use Rattle.std.proofs.Common.{◌≡◌, ℕ, ◌<◌, ◌≤◌, Bool, true, false, cond, List, [], ◌∷◌, ◌++◌, length, refl, sym, ap, subst, ◌∙◌, ltb, Option, Some, None, Result, Ok, Err, lt-ltb, le-ltb, ltb-false, arith}
use Rattle.std.specs.Result.{result_err, IfOk}
use Rattle.std.specs.List.{filter}
use Rattle.std.specs.List.Sorted.{IsPermutation}
use Rattle.std.proofs.lemmas.List.Sorted.{IsPermutation-refl, IsPermutation-sym, IsPermutation-trans, IsPermutation-cons, IsPermutation-insert, IsPermutation-append_left, IsPermutation-append_right, list_any-IsPermutation}
use Rattle.desk_signals.specs.declared.BadRow.{BadRow}
use Rattle.desk_signals.specs.declared.BadRow.TheVariants.{TwoLetters, TwoNumbers, Repeated}
use Rattle.desk_signals.specs.declared.Column.{Column}
use Rattle.desk_signals.specs.declared.Signal.{Signal}
use Rattle.desk_signals.specs.declared.Signal.TheVariants as signal
use Rattle.desk_signals.specs.declared.RibbonRow.{RibbonRow}
use Rattle.desk_signals.specs.declared.RibbonRow.TheVariants.{Cell, Coarse, FineOut}
use Rattle.desk_signals.specs.Rows.{IsRow, Spells, signals_of, letters_of, number_of, letters, numbers, is_letter, is_number, has, same, repeats, two_letters, wedge_fault, fault_of}
use Rattle.desk_signals.proofs.Same.{lone, filter-permutation}
use Rattle.desk_signals.proofs.Table.{row_once, row_faultless}
use Rattle.desk_signals.proofs.RowLaws.{spelled_once, signals_have_one_row}

-- signals in the order of their kinds
abbrev pub sorted : List Signal → List Signal
sorted xs =
    letters xs ++ (numbers xs ++ (filter (same signal.Fine) xs ++ (filter (same signal.Coarse) xs ++ filter (same signal.S) xs)))

moved : (before : List Signal) (x : Signal) (after : List Signal) → IsPermutation (x ∷ (before ++ after)) (before ++ x ∷ after)
moved [] x after = IsPermutation-refl (x ∷ after)
moved (y ∷ before) x after =
    IsPermutation-trans (x ∷ y ∷ (before ++ after)) (y ∷ x ∷ (before ++ after)) (y ∷ (before ++ x ∷ after))
    (IsPermutation-insert (y ∷ (before ++ after)) 1 x)
    (IsPermutation-cons y (x ∷ (before ++ after)) (before ++ x ∷ after) (moved before x after))

behind : (before : List Signal) (x : Signal) (xs ys : List Signal) → IsPermutation (x ∷ xs) ys → IsPermutation (x ∷ (before ++ xs)) (before ++ ys)
behind before x xs ys e =
    IsPermutation-trans (x ∷ (before ++ xs)) (before ++ x ∷ xs) (before ++ ys) (moved before x xs)
    (IsPermutation-append_right before (x ∷ xs) ys e)

put_in : (x : Signal) (xs : List Signal) → IsPermutation (x ∷ sorted xs) (sorted (x ∷ xs))
put_in signal.A xs = IsPermutation-refl _
put_in signal.B xs = IsPermutation-refl _
put_in signal.C xs = IsPermutation-refl _
put_in signal.D xs = IsPermutation-refl _
put_in signal.E xs = IsPermutation-refl _
put_in signal.F xs = IsPermutation-refl _
put_in signal.G xs = IsPermutation-refl _
put_in signal.H xs = IsPermutation-refl _
put_in signal.I xs = IsPermutation-refl _
put_in signal.J xs = IsPermutation-refl _
put_in signal.K xs = IsPermutation-refl _
put_in signal.L xs = IsPermutation-refl _
put_in signal.M xs = IsPermutation-refl _
put_in signal.N xs = IsPermutation-refl _
put_in signal.One xs = behind (letters xs) signal.One _ _ (IsPermutation-refl _)
put_in signal.Two xs = behind (letters xs) signal.Two _ _ (IsPermutation-refl _)
put_in signal.Three xs = behind (letters xs) signal.Three _ _ (IsPermutation-refl _)
put_in signal.Four xs = behind (letters xs) signal.Four _ _ (IsPermutation-refl _)
put_in signal.Five xs = behind (letters xs) signal.Five _ _ (IsPermutation-refl _)
put_in signal.Six xs = behind (letters xs) signal.Six _ _ (IsPermutation-refl _)
put_in signal.Seven xs = behind (letters xs) signal.Seven _ _ (IsPermutation-refl _)
put_in signal.Eight xs = behind (letters xs) signal.Eight _ _ (IsPermutation-refl _)
put_in signal.Nine xs = behind (letters xs) signal.Nine _ _ (IsPermutation-refl _)
put_in signal.Ten xs = behind (letters xs) signal.Ten _ _ (IsPermutation-refl _)
put_in signal.Eleven xs = behind (letters xs) signal.Eleven _ _ (IsPermutation-refl _)
put_in signal.Twelve xs = behind (letters xs) signal.Twelve _ _ (IsPermutation-refl _)
put_in signal.Thirteen xs = behind (letters xs) signal.Thirteen _ _ (IsPermutation-refl _)
put_in signal.Fourteen xs = behind (letters xs) signal.Fourteen _ _ (IsPermutation-refl _)
put_in signal.Fine xs = behind (letters xs) signal.Fine _ _ (behind (numbers xs) signal.Fine _ _ (IsPermutation-refl _))
put_in signal.Coarse xs = behind (letters xs) signal.Coarse _ _ (behind (numbers xs) signal.Coarse _ _ (behind (filter (same signal.Fine) xs) signal.Coarse _ _ (IsPermutation-refl _)))
put_in signal.S xs = behind (letters xs) signal.S _ _ (behind (numbers xs) signal.S _ _ (behind (filter (same signal.Fine) xs) signal.S _ _ (behind (filter (same signal.Coarse) xs) signal.S _ _ (IsPermutation-refl _))))

sorted_permutes : (xs : List Signal) → IsPermutation xs (sorted xs)
sorted_permutes [] = IsPermutation-refl []
sorted_permutes (x ∷ xs) =
    IsPermutation-trans (x ∷ xs) (x ∷ sorted xs) (sorted (x ∷ xs)) (IsPermutation-cons x xs (sorted xs) (sorted_permutes xs)) (put_in x xs)

spelled : (xs : List Signal) (row : RibbonRow) → sorted xs ≡ signals_of row → Spells xs row
spelled xs row e = IsPermutation-sym xs (signals_of row) (subst (λ ys. IsPermutation xs ys) e (sorted_permutes xs))

once : (xs : List Signal) (y : Signal) (b : Bool) → repeats xs ≡ false → b ≡ has xs y → filter (same y) xs ≡ cond b (y ∷ []) []
once xs y b none is = lone xs y none ∙ ap (λ b. cond b (y ∷ []) []) (sym is)

pub cell_spelled : (xs : List Signal) (c : Column) (n : ℕ) (s : Bool) → repeats xs ≡ false → IsPermutation (letters_of c) (letters xs) → numbers xs ≡ number_of n →
    false ≡ has xs signal.Fine → false ≡ has xs signal.Coarse → s ≡ has xs signal.S → Spells xs (Cell c n s)
cell_spelled xs c n s none l m f k t =
    let rest : numbers xs ++ (filter (same signal.Fine) xs ++ (filter (same signal.Coarse) xs ++ filter (same signal.S) xs)) ≡ number_of n ++ cond s (signal.S ∷ []) [] =
    rw (m, once xs signal.Fine false none f, once xs signal.Coarse false none k, once xs signal.S s none t) refl in
    let same_rest = subst (λ ys. IsPermutation (signals_of (Cell c n s)) (letters xs ++ ys)) (sym rest) (IsPermutation-append_left (number_of n ++ cond s (signal.S ∷ []) []) (letters_of c) (letters xs) l) in
    IsPermutation-trans (signals_of (Cell c n s)) (sorted xs) xs same_rest (IsPermutation-sym xs (sorted xs) (sorted_permutes xs))

pub coarse_spelled : (xs : List Signal) (n : ℕ) → repeats xs ≡ false → letters xs ≡ [] → numbers xs ≡ number_of n →
    false ≡ has xs signal.Fine → true ≡ has xs signal.Coarse → false ≡ has xs signal.S → Spells xs (Coarse n)
coarse_spelled xs n none l m f k t =
    spelled xs (Coarse n)
    (rw (l, m, once xs signal.Fine false none f, once xs signal.Coarse true none k, once xs signal.S false none t) refl)

pub fine_spelled : (xs : List Signal) (n : ℕ) → repeats xs ≡ false → letters xs ≡ [] → numbers xs ≡ number_of n →
    true ≡ has xs signal.Fine → true ≡ has xs signal.Coarse → false ≡ has xs signal.S → Spells xs (FineOut n)
fine_spelled xs n none l m f k t =
    spelled xs (FineOut n)
    (rw (l, m, once xs signal.Fine true none f, once xs signal.Coarse true none k, once xs signal.S false none t) refl)

-- the signals of a row, in any order, have no fault
pub spelled_faultless : (xs : List Signal) (row : RibbonRow) → IsRow row → Spells xs row → fault_of xs ≡ None
spelled_faultless xs row is spells =
    let e0 = spelled_once xs row is spells ∙ sym (row_once row is) in
    let e1 = sym (filter-permutation is_letter (signals_of row) xs spells) in
    let e2 = sym (filter-permutation is_number (signals_of row) xs spells) in
    let e3 = alike signal.Fine in
    let e4 = alike signal.Coarse in
    let e5 = alike signal.S in
    let e6 = alike signal.N in
    let e7 = alike signal.I in
    let e8 = alike signal.L in
    rw (e0, e1, e2, e3, e4, e5, e6, e7, e8) (row_faultless row is)
  where
    alike : (x : Signal) → has xs x ≡ has (signals_of row) x
    alike x = sym (list_any-IsPermutation (same x) (signals_of row) xs spells)

-- the causes, one by one
pub two_letters_reported : (xs : List Signal) → repeats xs ≡ false → two_letters xs ≡ true → Some TwoLetters ≡ fault_of xs
two_letters_reported xs none two = rw (none, two) refl

pub two_numbers : (xs : List Signal) → repeats xs ≡ false → two_letters xs ≡ false → 1 < length (numbers xs) → Some TwoNumbers ≡ fault_of xs
two_numbers xs none one two = rw (none, one, lt-ltb 1 (length (numbers xs)) two) refl

pub the_wedge_fault : (xs : List Signal) (fine coarse s : Bool) (n m : ℕ) → repeats xs ≡ false → two_letters xs ≡ false → n ≡ length (letters xs) → m ≡ length (numbers xs) → m ≤ 1 →
    fine ≡ has xs signal.Fine → coarse ≡ has xs signal.Coarse → s ≡ has xs signal.S → wedge_fault fine coarse (ltb 0 n) s ≡ fault_of xs
the_wedge_fault xs fine coarse s n m none few count count_numbers lone_number f k t =
    rw (none, few, f, k, t, count, sym count_numbers, le-ltb 1 m lone_number) refl

-- signals without a fault
record Faultless (xs : List Signal) : Type 0 where
  once : repeats xs ≡ false
  few : two_letters xs ≡ false
  wedges : wedge_fault (has xs signal.Fine) (has xs signal.Coarse) (ltb 0 (length (letters xs))) (has xs signal.S) ≡ None

none_left : (b : Bool) (why : BadRow) (rest : Option BadRow) → cond b (Some why) rest ≡ None → (b ≡ false) × (rest ≡ None)
none_left true why rest e = absurd (cc)
none_left false why rest e = (refl, e)

faultless : (xs : List Signal) → fault_of xs ≡ None → Faultless xs
faultless xs e =
    let first = none_left (repeats xs) Repeated _ e in
    let second = none_left (two_letters xs) TwoLetters _ first.1 in
    let third = none_left (ltb 1 (length (numbers xs))) TwoNumbers _ second.1 in
    record { once = first.0; few = second.0; wedges = third.1 }

fine_alone : (fine coarse letter s : Bool) → wedge_fault fine coarse letter s ≡ None → fine ≡ true → coarse ≡ true
fine_alone fine true letter s e is = refl
fine_alone true false letter s e is = absurd (cc)
fine_alone false false letter s e is = absurd (cc)

coarse_alone : (fine coarse letter s : Bool) → wedge_fault fine coarse letter s ≡ None → coarse ≡ true → (letter ≡ false) × (s ≡ false)
coarse_alone fine false letter s e is = absurd (cc)
coarse_alone true true true s e is = absurd (cc)
coarse_alone false true true s e is = absurd (cc)
coarse_alone true true false true e is = absurd (cc)
coarse_alone false true false true e is = absurd (cc)
coarse_alone fine true false false e is = (refl, refl)

no_length : (xs : List Signal) → length xs ≤ 0 → xs ≡ []
no_length [] e = refl
no_length (x ∷ xs) e = absurd (omega (arith, e))

pub fine_row : (xs : List Signal) (n : ℕ) → fault_of xs ≡ None → numbers xs ≡ number_of n → true ≡ has xs signal.Fine → Spells xs (FineOut n)
fine_row xs n e m f =
    let all = faultless xs e in
    let coarse = fine_alone _ _ _ _ all.wedges (sym f) in
    let alone = coarse_alone _ _ _ _ all.wedges coarse in
    fine_spelled xs n all.once (no_length (letters xs) (ltb-false 0 (length (letters xs)) alone.0)) m f (sym coarse) (sym alone.1)

pub coarse_row : (xs : List Signal) (n : ℕ) → fault_of xs ≡ None → numbers xs ≡ number_of n → false ≡ has xs signal.Fine → true ≡ has xs signal.Coarse → Spells xs (Coarse n)
coarse_row xs n e m f k =
    let all = faultless xs e in
    let alone = coarse_alone _ _ _ _ all.wedges (sym k) in
    coarse_spelled xs n all.once (no_length (letters xs) (ltb-false 0 (length (letters xs)) alone.0)) m f k (sym alone.1)

pub cell_row : (xs : List Signal) (c : Column) (n : ℕ) (s : Bool) → fault_of xs ≡ None → IsPermutation (letters_of c) (letters xs) → numbers xs ≡ number_of n →
    false ≡ has xs signal.Fine → false ≡ has xs signal.Coarse → s ≡ has xs signal.S → Spells xs (Cell c n s)
cell_row xs c n s e l m f k t = cell_spelled xs c n s (faultless xs e).once l m f k t

-- the answer at the signals of a row
pub the_answer : (xs : List Signal) (r : Result RibbonRow BadRow) → result_err r ≡ fault_of xs → IfOk r IsRow → IfOk r (Spells xs) →
    (row : RibbonRow) → IsRow row → Spells xs row → r ≡ Ok row
the_answer xs (Ok a) e is_a spells_a row is spells = ap (λ (b : RibbonRow). Ok b) (signals_have_one_row xs a row is_a is spells_a spells)
the_answer xs (Err why) e is_a spells_a row is spells = let f = spelled_faultless xs row is spells in absurd (cc)
