-- What a replica shows is no longer than what it holds, and its settings are in their ranges.
use Rattle.std.proofs.Common.{◌≡◌, ◌⊎◌, inl, inr, ℕ, suc, ◌≤◌, Bool, true, false, cond, List, [], ◌∷◌, length, refl, sym, ap, ◌∙◌, Option, Some, None, subst, arith}
use Rattle.std.specs.Prelude.{not, IfSome}
use Rattle.desk_ops.specs.declared.op.Key.TheVariants.{Measure, Tight, Loose}
use Rattle.desk_ops.proofs.Ends.{among_held}
use Rattle.desk_replica.specs.JobSettings.{settings_of}
use Rattle.desk_job.specs.Answer.{AreValues}
use Rattle.std.specs.List.{AllByRecursion, filter, filter_map, cons_option}
use Rattle.std.proofs.lemmas.Bool.{false≢true}
use Rattle.std.proofs.lemmas.List.{length-map}
use Rattle.desk_ops.specs.declared.op.Op.{Op}
use Rattle.desk_ops.specs.declared.op.Op.TheVariants.{Set}
use Rattle.desk_ops.specs.declared.op.Key.{Key}
use Rattle.desk_ops.specs.Op.{stamp_of, IsLawful, IsValue, Insertion, insertion}
use Rattle.desk_ops.specs.Stamp.{same}
use Rattle.desk_ops.specs.OpSet.{OpSet, in_order, size, AllLawful}
use Rattle.desk_ops.specs.Lists.{Among}
use Rattle.desk_ops.specs.Laws.{AreApart}
use Rattle.desk_ops.specs.Held.{is_clear, is_live, clear_ops, clear_inserts, live_inserts}
use Rattle.desk_ops.specs.Walk.{walk}
use Rattle.desk_ops.specs.Shown.{is_deleted, shown, copy_of}
use Rattle.desk_ops.specs.Settings.{setting_of, IsSetting}
use Rattle.desk_ops.proofs.Lists.{each-among}
use Rattle.desk_ops.proofs.OpSets.{length-in_order}
use Rattle.desk_ops.proofs.Stamps.{same-refl}
use Rattle.desk_ops.proofs.Tree.{walk-apart, walk-live}
use Rattle.desk_ops.proofs.Values.{is_setting}

filter_length : {A : Type 0} (p : A → Bool) (xs : List A) → length (filter p xs) ≤ length xs
filter_length p [] = omega arith
filter_length p (x ∷ xs) = one p x xs (p x) (filter_length p xs)
  where
    one : {A : Type 0} (p : A → Bool) (x : A) (xs : List A) (b : Bool) → length (filter p xs) ≤ length xs → length (cond b (x ∷ filter p xs) (filter p xs)) ≤ length (x ∷ xs)
    one p x xs true h = omega (arith, h)
    one p x xs false h = omega (arith, h)

-- a list without one of its elements
pub record Without {A : Type 0} (y : A) (xs : List A) : Type 0 where
  pub rest : List A
  pub shorter : length xs ≡ suc (length rest)
  pub others : (z : A) → Among z xs → (z ≡ y) ⊎ Among z rest

without : {A : Type 0} (y : A) (xs : List A) → Among y xs → Without y xs
without y [] a = absurd a
without y (x ∷ xs) (inl e) = record { rest = xs; shorter = refl; others = others y x xs e }
  where
    others : {A : Type 0} (y x : A) (xs : List A) → x ≡ y → (z : A) → Among z (x ∷ xs) → (z ≡ y) ⊎ Among z xs
    others y x xs e z (inl f) = inl (sym f ∙ e)
    others y x xs e z (inr b) = inr b
without y (x ∷ xs) (inr a) =
    let w = without y xs a in
    record { rest = x ∷ w.rest; shorter = ap suc w.shorter; others = others y x xs w }
  where
    still : {A : Type 0} (y x z : A) (rest : List A) → (z ≡ y) ⊎ Among z rest → (z ≡ y) ⊎ Among z (x ∷ rest)
    still y x z rest (inl e) = inl e
    still y x z rest (inr b) = inr (inr b)

    others : {A : Type 0} (y x : A) (xs : List A) (w : Without y xs) (z : A) → Among z (x ∷ xs) → (z ≡ y) ⊎ Among z (x ∷ w.rest)
    others y x xs w z (inl f) = inr (inl f)
    others y x xs w z (inr b) = still y x z w.rest (w.others z b)

-- inserts that are apart, each one of a list, are no more than the list has
apart_few : (ys xs : List Insertion) → AreApart ys → ((y : Insertion) → Among y ys → Among y xs) → length ys ≤ length xs
apart_few [] xs apart each = omega arith
apart_few (y ∷ ys) xs apart each =
    let w = without y xs (each y (inl refl)) in
    let more = apart_few ys w.rest apart.1 (λ z b. other y ys xs w apart.0 z b (w.others z (each z (inr b)))) in
    let s = w.shorter in
    omega (arith, more, s)
  where
    other : (y : Insertion) (ys xs : List Insertion) (w : Without y xs) → AllByRecursion (λ z. same z.stamp y.stamp ≡ false) ys →
        (z : Insertion) → Among z ys → (z ≡ y) ⊎ Among z w.rest → Among z w.rest
    other y ys xs w apart z b (inr d) = d
    other y ys xs w apart z b (inl e) =
        absurd (false≢true (sym (each-among (λ (z : Insertion). same z.stamp y.stamp ≡ false) ys z apart b)
        ∙ (ap (λ (x : Insertion). same x.stamp y.stamp) e ∙ same-refl y.stamp)))

filter_map_length : {A B : Type 0} (f : A → Option B) (xs : List A) → length (filter_map f xs) ≤ length xs
filter_map_length f [] = omega arith
filter_map_length f (x ∷ xs) = one f x xs (f x) (filter_map_length f xs)
  where
    one : {A B : Type 0} (f : A → Option B) (x : A) (xs : List A) (r : Option B) → length (filter_map f xs) ≤ length xs → length (cons_option r (filter_map f xs)) ≤ length (x ∷ xs)
    one f x xs None h = omega (arith, h)
    one f x xs (Some y) h = omega (arith, h)

live_few : (ops : List Op) → length (live_inserts ops) ≤ length ops
unfolding live_inserts clear_inserts clear_ops
live_few ops =
    let clear = filter (λ op. is_clear ops (stamp_of op)) ops in
    let a = filter_length (λ (x : Insertion). is_live ops x.parent) (filter_map insertion clear) in
    let b = filter_map_length insertion clear in
    let c = filter_length (λ (op : Op). is_clear ops (stamp_of op)) ops in
    omega (arith, a, b, c)

shown_few : (ops : List Op) → length (shown ops) ≤ length (walk ops)
unfolding shown
shown_few ops = filter_length (λ (x : Insertion). not (is_deleted ops x.stamp)) (walk ops)

-- the copy is no longer than the set
pub copy_short : (h : OpSet) → AllLawful h → length (copy_of h) ≤ size h
copy_short h lawful =
    let ops = in_order h in
    let a = length-map (shown ops) (λ (x : Insertion). x.symbol) in
    let b = shown_few ops in
    let c = apart_few (walk ops) (live_inserts ops) (walk-apart h lawful) (walk-live ops) in
    let d = live_few ops in
    let e = length-in_order h in
    omega (arith, a, b, c, d, e)

-- a setting is in its key's range
pub setting_in : (h : OpSet) (key : Key) (r : Option ℕ) → AllLawful h → r ≡ setting_of h key → IfSome r (IsValue key)
setting_in h key None lawful is = tt
setting_in h key (Some v) lawful is =
    let set = subst (IsSetting h key) (sym is) (is_setting h key) in
    (each-among IsLawful (in_order h) (Set set.0 key v) lawful (among_held h (Set set.0 key v) set.1.0.0)).1

pub settings_in : (h : OpSet) → AllLawful h → AreValues (settings_of h)
settings_in h lawful = record {
  measure = setting_in h Measure (setting_of h Measure) lawful refl;
  tight = setting_in h Tight (setting_of h Tight) lawful refl;
  loose = setting_in h Loose (setting_of h Loose) lawful refl;
}
