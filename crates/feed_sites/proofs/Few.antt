-- The symbols that a set shows and the settings that it has are no more than its operations.
use Rattle.std.proofs.Common.{◌≡◌, ◌⊎◌, inl, inr, ℕ, suc, ◌+◌, ◌≤◌, ◌==◌, Bool, true, false, cond, List, [], ◌∷◌, length, refl, sym, ap, ◌∙◌, Option, Some, None, arith}
use Rattle.std.specs.Prelude.{not, IfSome}
use Rattle.std.specs.List.{AllByRecursion, filter, filter_map}
use Rattle.std.proofs.lemmas.Bool.{false≢true}
use Rattle.std.proofs.lemmas.List.{length-map}
use Rattle.desk_ops.specs.declared.op.Op.{Op}
use Rattle.desk_ops.specs.declared.op.Op.TheVariants.{Insert, Delete, Set}
use Rattle.desk_ops.specs.declared.op.Key.{Key}
use Rattle.desk_ops.specs.declared.op.Key.TheVariants.{Measure, Tight, Loose, Case, Wedge}
use Rattle.desk_ops.specs.Op.{stamp_of, IsLawful, IsValue, Insertion, insertion}
use Rattle.desk_ops.specs.Stamp.{same}
use Rattle.desk_ops.specs.Order.{key_code}
use Rattle.desk_ops.specs.OpSet.{OpSet, in_order, size, AllLawful}
use Rattle.desk_ops.specs.Lists.{Among}
use Rattle.desk_ops.specs.Laws.{AreApart}
use Rattle.desk_ops.specs.Held.{is_clear, is_live, clear_ops, clear_inserts, live_inserts}
use Rattle.desk_ops.specs.Walk.{walk}
use Rattle.desk_ops.specs.Shown.{is_deleted, shown, copy_of}
use Rattle.desk_ops.specs.Settings.{setting_of, IsSetting}
use Rattle.desk_ops.proofs.Ends.{among_held}
use Rattle.desk_ops.proofs.Lists.{each-among}
use Rattle.desk_ops.proofs.OpSets.{length-in_order}
use Rattle.desk_ops.proofs.Stamps.{same-refl}
use Rattle.desk_ops.proofs.Tree.{walk-apart, walk-live}
use Rattle.desk_ops.proofs.Values.{is_setting}
use Rattle.feed_sites.specs.Anew.{one_if}

-- ---- lists

filter_length : {A : Type 0} (p : A → Bool) (xs : List A) → length (filter p xs) ≤ length xs
filter_length p [] = omega arith
filter_length p (x ∷ xs) = one p x xs (p x) (filter_length p xs)
  where
    one : {A : Type 0} (p : A → Bool) (x : A) (xs : List A) (b : Bool) → length (filter p xs) ≤ length xs → length (cond b (x ∷ filter p xs) (filter p xs)) ≤ length (x ∷ xs)
    one p x xs true h = omega (arith, h)
    one p x xs false h = omega (arith, h)

-- a list without one of its elements
record Without {A : Type 0} (y : A) (xs : List A) : Type 0 where
  rest : List A
  shorter : length xs ≡ suc (length rest)
  others : (z : A) → Among z xs → (z ≡ y) ⊎ Among z rest

without : {A : Type 0} (y : A) (xs : List A) → Among y xs → Without y xs
without y [] a = absurd a
without y (x ∷ xs) (inl e) = record { rest = xs; shorter = refl; others = others y x xs e }
  where
    others : {A : Type 0} (y x : A) (xs : List A) → x ≡ y → (z : A) → Among z (x ∷ xs) → (z ≡ y) ⊎ Among z xs
    others y x xs e z (inl f) = inl (sym f ∙ e)
    others y x xs e z (inr b) = inr b
without y (x ∷ xs) (inr a) =
    let w = without y xs a in
    record { rest = x ∷ w.rest; shorter = ap suc w.shorter; others = others y x xs w }
  where
    still : {A : Type 0} (y x z : A) (rest : List A) → (z ≡ y) ⊎ Among z rest → (z ≡ y) ⊎ Among z (x ∷ rest)
    still y x z rest (inl e) = inl e
    still y x z rest (inr b) = inr (inr b)

    others : {A : Type 0} (y x : A) (xs : List A) (w : Without y xs) (z : A) → Among z (x ∷ xs) → (z ≡ y) ⊎ Among z (x ∷ w.rest)
    others y x xs w z (inl f) = inr (inl f)
    others y x xs w z (inr b) = still y x z w.rest (w.others z b)

-- inserts that are apart, each one of a list, are no more than the list has
apart_few : (ys xs : List Insertion) → AreApart ys → ((y : Insertion) → Among y ys → Among y xs) → length ys ≤ length xs
apart_few [] xs apart each = omega arith
apart_few (y ∷ ys) xs apart each =
    let w = without y xs (each y (inl refl)) in
    let more = apart_few ys w.rest apart.1 (λ z b. other y ys xs w apart.0 z b (w.others z (each z (inr b)))) in
    let s = w.shorter in
    omega (arith, more, s)
  where
    other : (y : Insertion) (ys xs : List Insertion) (w : Without y xs) → AllByRecursion (λ z. same z.stamp y.stamp ≡ false) ys →
        (z : Insertion) → Among z ys → (z ≡ y) ⊎ Among z w.rest → Among z w.rest
    other y ys xs w apart z b (inr d) = d
    other y ys xs w apart z b (inl e) =
        absurd (false≢true (sym (each-among (λ (z : Insertion). same z.stamp y.stamp ≡ false) ys z apart b)
        ∙ (ap (λ (x : Insertion). same x.stamp y.stamp) e ∙ same-refl y.stamp)))

-- ---- operations by kind

insert_count : Op → ℕ
insert_count (Insert stamp parent symbol) = 1
insert_count (Delete stamp target) = 0
insert_count (Set stamp key value) = 0

set_count : Key → Op → ℕ
set_count key (Insert stamp parent symbol) = 0
set_count key (Delete stamp target) = 0
set_count key (Set stamp other value) = cond (key_code other == key_code key) 1 0

abbrev inserts_in : List Op → ℕ
inserts_in [] = 0
inserts_in (op ∷ ops) = insert_count op + inserts_in ops

abbrev sets_in : Key → List Op → ℕ
sets_in key [] = 0
sets_in key (op ∷ ops) = set_count key op + sets_in key ops

-- an operation is of one kind
one_kind : (op : Op) → insert_count op + (set_count Measure op + set_count Tight op + set_count Loose op + set_count Case op + set_count Wedge op) ≤ 1
unfolding insert_count set_count
one_kind (Insert stamp parent symbol) = omega arith
one_kind (Delete stamp target) = omega arith
one_kind (Set stamp Measure value) = omega arith
one_kind (Set stamp Tight value) = omega arith
one_kind (Set stamp Loose value) = omega arith
one_kind (Set stamp Case value) = omega arith
one_kind (Set stamp Wedge value) = omega arith

all_kinds : (ops : List Op) → inserts_in ops + (sets_in Measure ops + sets_in Tight ops + sets_in Loose ops + sets_in Case ops + sets_in Wedge ops) ≤ length ops
all_kinds [] = omega arith
all_kinds (op ∷ ops) = let one = one_kind op in let rest = all_kinds ops in omega (arith, one, rest)

-- ---- inserts

inserted_few : (p : Op → Bool) (ops : List Op) → length (filter_map insertion (filter p ops)) ≤ inserts_in ops
unfolding insert_count
inserted_few p [] = omega arith
inserted_few p (op ∷ ops) = one op (p op) (inserted_few p ops)
  where
    one : (op : Op) (b : Bool) → length (filter_map insertion (filter p ops)) ≤ inserts_in ops → length (filter_map insertion (cond b (op ∷ filter p ops) (filter p ops))) ≤ inserts_in (op ∷ ops)
    one op false h = omega (arith, h)
    one (Insert stamp parent symbol) true h = omega (arith, h)
    one (Delete stamp target) true h = omega (arith, h)
    one (Set stamp key value) true h = omega (arith, h)

live_few : (ops : List Op) → length (live_inserts ops) ≤ inserts_in ops
unfolding live_inserts clear_inserts clear_ops
live_few ops =
    let clear = filter (λ op. is_clear ops (stamp_of op)) ops in
    let a = filter_length (λ (x : Insertion). is_live ops x.parent) (filter_map insertion clear) in
    let b = inserted_few (λ (op : Op). is_clear ops (stamp_of op)) ops in
    omega (arith, a, b)

shown_few : (ops : List Op) → length (shown ops) ≤ length (walk ops)
unfolding shown
shown_few ops = filter_length (λ (x : Insertion). not (is_deleted ops x.stamp)) (walk ops)

copy_few : (set : OpSet) → AllLawful set → length (copy_of set) ≤ inserts_in (in_order set)
copy_few set lawful =
    let ops = in_order set in
    let a = length-map (shown ops) (λ (x : Insertion). x.symbol) in
    let b = shown_few ops in
    let c = apart_few (walk ops) (live_inserts ops) (walk-apart set lawful) (walk-live ops) in
    let d = live_few ops in
    omega (arith, a, b, c, d)

-- ---- settings

among_counts : (key : Key) (op : Op) (ops : List Op) → Among op ops → set_count key op ≤ sets_in key ops
among_counts key op [] m = absurd m
among_counts key op (other ∷ ops) (inl same) = let e : set_count key other ≡ set_count key op = ap (set_count key) same in omega (arith, e)
among_counts key op (other ∷ ops) (inr m) = let rest = among_counts key op ops m in omega (arith, rest)

own_key : (key : Key) → (key_code key == key_code key) ≡ true
own_key Measure = refl
own_key Tight = refl
own_key Loose = refl
own_key Case = refl
own_key Wedge = refl

setting_few : (set : OpSet) (key : Key) (value : Option ℕ) → IsSetting set key value → one_if value ≤ sets_in key (in_order set)
unfolding set_count
setting_few set key None is = omega arith
setting_few set key (Some value) is =
    let m = among_counts key (Set is.0 key value) (in_order set) (among_held set (Set is.0 key value) is.1.0.0) in
    let one : set_count key (Set is.0 key value) ≡ 1 = ap (λ b. cond b 1 0) (own_key key) in
    omega (arith, m, one)

-- all together
pub all_few : (set : OpSet) → AllLawful set
    → length (copy_of set) + (one_if (setting_of set Measure) + one_if (setting_of set Tight) + one_if (setting_of set Loose) + one_if (setting_of set Case) + one_if (setting_of set Wedge)) ≤ size set
all_few set lawful =
    let ops = in_order set in
    let copy = copy_few set lawful in
    let measure = setting_few set Measure (setting_of set Measure) (is_setting set Measure) in
    let tight = setting_few set Tight (setting_of set Tight) (is_setting set Tight) in
    let loose = setting_few set Loose (setting_of set Loose) (is_setting set Loose) in
    let of_case = setting_few set Case (setting_of set Case) (is_setting set Case) in
    let wedge = setting_few set Wedge (setting_of set Wedge) (is_setting set Wedge) in
    let kinds = all_kinds ops in
    let all = length-in_order set in
    omega (arith, copy, measure, tight, loose, of_case, wedge, kinds, all)

-- a value is in the range of its key
pub setting_in : (set : OpSet) (key : Key) (value : Option ℕ) → AllLawful set → IsSetting set key value → IfSome value (IsValue key)
setting_in set key None lawful is = tt
setting_in set key (Some value) lawful is = (each-among IsLawful (in_order set) (Set is.0 key value) lawful (among_held set (Set is.0 key value) is.1.0.0)).1
