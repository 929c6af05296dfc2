-- Lists: what holds of each, what is among them, what a filter keeps.
use Rattle.std.proofs.Common.{◌≡◌, ℕ, zero, suc, ◌+◌, ◌<◌, length, take, drop, get_or, arith, Bool, true, false, cond, List, [], ◌∷◌, ◌++◌, refl, sym, ap, ◌∙◌, subst, ◌⊎◌, inl, inr, Option, Some, None}
use Rattle.std.specs.Prelude.{is_some}
use Rattle.std.proofs.lemmas.Bool.{true≢false}
use Rattle.std.proofs.lemmas.List.{drop_more}
use Rattle.std.specs.List.{AllByRecursion, insert, filter, filter_map, cons_option}
use Rattle.desk_ops.specs.Lists.{Among, Precedes}

-- what is not some is none
pub none_of : {A : Type 0} (o : Option A) → is_some o ≡ false → o ≡ None
none_of None e = refl
none_of (Some x) e = absurd (true≢false e)

abbrev pub Each : {A : Type 0} → (A → Type 0) → List A → Type 0
Each P xs = AllByRecursion P xs

pub Each-append : {A : Type 0} (P : A → Type 0) (xs ys : List A) → Each P xs → Each P ys → Each P (xs ++ ys)
Each-append P [] ys h k = k
Each-append P (x ∷ xs) ys h k = (h.0, Each-append P xs ys h.1 k)

pub Each-weaker : {A : Type 0} (P Q : A → Type 0) → ((x : A) → P x → Q x) → (xs : List A) → Each P xs → Each Q xs
Each-weaker P Q f [] h = tt
Each-weaker P Q f (x ∷ xs) h = (f x h.0, Each-weaker P Q f xs h.1)

pub Each-both : {A : Type 0} (P Q R : A → Type 0) → ((x : A) → P x → Q x → R x) → (xs : List A) → Each P xs → Each Q xs → Each R xs
Each-both P Q R f [] h k = tt
Each-both P Q R f (x ∷ xs) h k = (f x h.0 k.0, Each-both P Q R f xs h.1 k.1)

pub each-among : {A : Type 0} (P : A → Type 0) (xs : List A) (x : A) → Each P xs → Among x xs → P x
each-among P [] x h m = absurd m
each-among P (y ∷ ys) x h (inl e) = subst P e h.0
each-among P (y ∷ ys) x h (inr m) = each-among P ys x h.1 m

pub each-from_among : {A : Type 0} (P : A → Type 0) (xs : List A) → ((x : A) → Among x xs → P x) → Each P xs
each-from_among P [] f = tt
each-from_among P (y ∷ ys) f = (f y (inl refl), each-from_among P ys (λ x m. f x (inr m)))

-- what stands at a place
pub each-at : {A : Type 0} (P : A → Type 0) (xs : List A) (i : ℕ) (d : A) → Each P xs → i < length xs → P (get_or xs i d)
each-at P [] i d h lt = absurd (omega arith)
each-at P (x ∷ xs) zero d h lt = h.0
each-at P (x ∷ xs) (suc i) d h lt = each-at P xs i d h.1 (omega arith)

pub among-at : {A : Type 0} (xs : List A) (i : ℕ) (d : A) → i < length xs → Among (get_or xs i d) xs
among-at [] i d lt = absurd (omega arith)
among-at (x ∷ xs) zero d lt = inl refl
among-at (x ∷ xs) (suc i) d lt = inr (among-at xs i d (omega arith))

pub drop-at : {A : Type 0} (xs : List A) (i : ℕ) (x d : A) → i < length xs → x ≡ get_or xs i d → drop i xs ≡ x ∷ drop (i + 1) xs
drop-at xs i x d lt is = drop_more xs i d lt ∙ ap (λ y. y ∷ drop (i + 1) xs) (sym is)

pub Each-take : {A : Type 0} (P : A → Type 0) (n : ℕ) (xs : List A) → Each P xs → Each P (take n xs)
Each-take P zero [] h = tt
Each-take P zero (x ∷ xs) h = tt
Each-take P (suc n) [] h = tt
Each-take P (suc n) (x ∷ xs) h = (h.0, Each-take P n xs h.1)

pub Each-drop : {A : Type 0} (P : A → Type 0) (n : ℕ) (xs : List A) → Each P xs → Each P (drop n xs)
Each-drop P zero [] h = tt
Each-drop P zero (x ∷ xs) h = h
Each-drop P (suc n) [] h = tt
Each-drop P (suc n) (x ∷ xs) h = Each-drop P n xs h.1

pub Each-insert : {A : Type 0} (P : A → Type 0) (xs : List A) (i : ℕ) (x : A) → Each P xs → P x → Each P (insert xs i x)
Each-insert P xs zero x h k = (k, h)
Each-insert P [] (suc i) x h k = (k, tt)
Each-insert P (y ∷ ys) (suc i) x h k = (h.0, Each-insert P ys i x h.1 k)

pub among-filter : {A : Type 0} (p : A → Bool) (xs : List A) (x : A) → Among x (filter p xs) → Among x xs × (p x ≡ true)
among-filter p [] x m = absurd m
among-filter p (y ∷ ys) x m =
    elim (p y) as (λ b. p y ≡ b → Among x (cond b (y ∷ filter p ys) (filter p ys)) → Among x (y ∷ ys) × (p x ≡ true)) [
      | true ↦ λ e m. here e (among-filter p ys x) m
      | false ↦ λ e m. let r = among-filter p ys x m in (inr r.0, r.1)
    ] refl m
  where
    here : p y ≡ true → (Among x (filter p ys) → Among x ys × (p x ≡ true)) → Among x (y ∷ filter p ys) → Among x (y ∷ ys) × (p x ≡ true)
    here e f (inl i) = (inl i, subst (λ z. p z ≡ true) i e)
    here e f (inr m) = (inr (f m).0, (f m).1)

pub each-filter : {A : Type 0} (P : A → Type 0) (p : A → Bool) (xs : List A) → Each P xs → Each P (filter p xs)
each-filter P p [] h = tt
each-filter P p (x ∷ xs) h = elim (p x) as (λ b. Each P (cond b (x ∷ filter p xs) (filter p xs))) [ true ↦ (h.0, each-filter P p xs h.1) | false ↦ each-filter P p xs h.1 ]

pub precedes-filter : {A : Type 0} (p : A → Bool) (xs : List A) (x y : A) → Precedes x y (filter p xs) → Precedes x y xs
precedes-filter p [] x y m = absurd m
precedes-filter p (z ∷ zs) x y m = elim (p z) as (λ b. Precedes x y (cond b (z ∷ filter p zs) (filter p zs)) → Precedes x y (z ∷ zs)) [ true ↦ λ m. here (precedes-filter p zs x y) m | false ↦ λ m. inr (precedes-filter p zs x y m) ] m
  where
    here : (Precedes x y (filter p zs) → Precedes x y zs) → Precedes x y (z ∷ filter p zs) → Precedes x y (z ∷ zs)
    here f (inl h) = inl (h.0, (among-filter p zs y h.1).0)
    here f (inr m) = inr (f m)

pub precedes-first : {A : Type 0} (xs : List A) (x y : A) → Precedes x y xs → Among x xs
precedes-first [] x y m = absurd m
precedes-first (z ∷ zs) x y (inl h) = inl h.0
precedes-first (z ∷ zs) x y (inr m) = inr (precedes-first zs x y m)

pub precedes-second : {A : Type 0} (xs : List A) (x y : A) → Precedes x y xs → Among y xs
precedes-second [] x y m = absurd m
precedes-second (z ∷ zs) x y (inl h) = inr h.1
precedes-second (z ∷ zs) x y (inr m) = inr (precedes-second zs x y m)

pub precedes-cases : {A : Type 0} (xs : List A) (x y : A) → Among x xs → Among y xs → Precedes x y xs ⊎ ((x ≡ y) ⊎ Precedes y x xs)
precedes-cases [] x y m n = absurd m
precedes-cases (z ∷ zs) x y (inl e) (inl f) = inr (inl (sym e ∙ f))
precedes-cases (z ∷ zs) x y (inl e) (inr n) = inl (inl (e, n))
precedes-cases (z ∷ zs) x y (inr m) (inl f) = inr (inr (inl (f, m)))
precedes-cases (z ∷ zs) x y (inr m) (inr n) = go (precedes-cases zs x y m n)
  where
    go : Precedes x y zs ⊎ ((x ≡ y) ⊎ Precedes y x zs) → Precedes x y (z ∷ zs) ⊎ ((x ≡ y) ⊎ Precedes y x (z ∷ zs))
    go (inl h) = inl (inr h)
    go (inr (inl h)) = inr (inl h)
    go (inr (inr h)) = inr (inr (inr h))

pub among-filter_from : {A : Type 0} (p : A → Bool) (xs : List A) (x : A) → Among x xs → p x ≡ true → Among x (filter p xs)
among-filter_from p [] x m h = absurd m
among-filter_from p (y ∷ ys) x (inl e) h = rw (subst (λ z. p z ≡ true) (sym e) h) (inl e)
among-filter_from p (y ∷ ys) x (inr m) h = elim (p y) as (λ b. Among x (cond b (y ∷ filter p ys) (filter p ys))) [ true ↦ inr (among-filter_from p ys x m h) | false ↦ among-filter_from p ys x m h ]

pub among-filter_map : {A B : Type 0} (f : A → Option B) (xs : List A) (y : B) → Among y (filter_map f xs) → (x : A) × Among x xs × (f x ≡ Some y)
among-filter_map f [] y m = absurd m
among-filter_map {A} {B} f (x ∷ xs) y m = go (among-filter_map f xs y) (f x) refl m
  where
    later : ((x : A) × Among x xs × (f x ≡ Some y)) → (z : A) × Among z (x ∷ xs) × (f z ≡ Some y)
    later r = (r.0, inr r.1, r.2)

    go : (Among y (filter_map f xs) → (x : A) × Among x xs × (f x ≡ Some y)) → (o : Option B) → f x ≡ o → Among y (cons_option o (filter_map f xs)) → (z : A) × Among z (x ∷ xs) × (f z ≡ Some y)
    go rest None e m = later (rest m)
    go rest (Some b) e (inl i) = (x, inl refl, e ∙ ap Some i)
    go rest (Some b) e (inr m) = later (rest m)

pub among-filter_map_from : {A B : Type 0} (f : A → Option B) (xs : List A) (x : A) (y : B) → Among x xs → f x ≡ Some y → Among y (filter_map f xs)
among-filter_map_from f [] x y m e = absurd m
among-filter_map_from f (z ∷ zs) x y (inl i) e = rw (ap f i ∙ e) (inl refl)
among-filter_map_from {A} {B} f (z ∷ zs) x y (inr m) e = go (f z) (among-filter_map_from f zs x y m e)
  where
    go : (o : Option B) → Among y (filter_map f zs) → Among y (cons_option o (filter_map f zs))
    go None m = m
    go (Some b) m = inr m

pub precedes-filter_from : {A : Type 0} (p : A → Bool) (xs : List A) (x y : A) → Precedes x y xs → p x ≡ true → p y ≡ true → Precedes x y (filter p xs)
precedes-filter_from p [] x y m h k = absurd m
precedes-filter_from p (z ∷ zs) x y (inl m) h k = rw (subst (λ z. p z ≡ true) (sym m.0) h) (inl (m.0, among-filter_from p zs y m.1 k))
precedes-filter_from p (z ∷ zs) x y (inr m) h k = elim (p z) as (λ b. Precedes x y (cond b (z ∷ filter p zs) (filter p zs))) [ true ↦ inr (precedes-filter_from p zs x y m h k) | false ↦ precedes-filter_from p zs x y m h k ]
