-- Entries of a walk, and places among them.
use Rattle.std.proofs.Common.{◌≡◌, ℕ, zero, suc, ◌<◌, ◌≤◌, Bool, true, false, List, [], ◌∷◌, map, length, get_or, refl, sym, ap, ◌∙◌, subst, ◌⊎◌, inl, inr, arith}
use Rattle.std.specs.List.{insert}
use Rattle.std.proofs.lemmas.Bool.{true≢false}
use Rattle.desk_ops.specs.declared.op.Stamp.{Stamp}
use Rattle.desk_ops.specs.declared.op.Symbol.{Symbol}
use Rattle.desk_ops.specs.Stamp.{same, head, is_head}
use Rattle.desk_ops.specs.Op.{Insertion}
use Rattle.desk_ops.specs.OpSet.{OpSet}
use Rattle.desk_ops.specs.Lists.{Among}
use Rattle.desk_ops.specs.Shown.{is_deleted_in}
use Rattle.desk_ops.specs.Walk.{walk_from}
use Rattle.desk_ops.proofs.Lists.{each-among, each-from_among}
use Rattle.desk_ops.proofs.Stamps.{same-from}
use Rattle.desk_ops.proofs.Scans.{walk-each}
use Rattle.desk_seq.specs.declared.Entry.{Entry}
use Rattle.desk_seq.specs.Entries.{stamps_of, IsAbsent, AreDistinct, with_mark}
use Rattle.desk_seq.proofs.Entries.{length-stamps}
use Rattle.desk_walk.specs.Following.{entry_of, bare, bare_of, places, place_at}

-- ---- membership

pub among-map : {A B : Type 0} (f : A → B) (xs : List A) (y : B) → Among y (map f xs) → (x : A) × Among x xs × (f x ≡ y)
among-map f [] y m = absurd m
among-map f (x ∷ xs) y (inl e) = (x, inl refl, e)
among-map f (x ∷ xs) y (inr m) = let r = among-map f xs y m in (r.0, inr r.1, r.2)

pub map-among : {A B : Type 0} (f : A → B) (xs : List A) (x : A) → Among x xs → Among (f x) (map f xs)
map-among f [] x m = absurd m
map-among f (y ∷ xs) x (inl e) = inl (ap f e)
map-among f (y ∷ xs) x (inr m) = inr (map-among f xs x m)

pub among-insert : {A : Type 0} (xs : List A) (i : ℕ) (x y : A) → Among y (insert xs i x) → (x ≡ y) ⊎ Among y xs
among-insert xs zero x y m = m
among-insert [] (suc i) x y m = m
among-insert (z ∷ xs) (suc i) x y (inl e) = inr (inl e)
among-insert (z ∷ xs) (suc i) x y (inr m) = go (among-insert xs i x y m)
  where
    go : (x ≡ y) ⊎ Among y xs → (x ≡ y) ⊎ Among y (z ∷ xs)
    go (inl e) = inl e
    go (inr n) = inr (inr n)

pub insert-among : {A : Type 0} (xs : List A) (i : ℕ) (x y : A) → (x ≡ y) ⊎ Among y xs → Among y (insert xs i x)
insert-among xs zero x y m = m
insert-among [] (suc i) x y m = m
insert-among (z ∷ xs) (suc i) x y (inl e) = inr (insert-among xs i x y (inl e))
insert-among (z ∷ xs) (suc i) x y (inr (inl e)) = inl e
insert-among (z ∷ xs) (suc i) x y (inr (inr m)) = inr (insert-among xs i x y (inr m))

pub among-at : (ts : List Stamp) (j : ℕ) → j < length ts → Among (get_or ts j head) ts
among-at [] j lt = absurd (omega arith)
among-at (t ∷ ts) zero lt = inl refl
among-at (t ∷ ts) (suc j) lt = inr (among-at ts j (omega arith))

pub at-among : (ts : List Stamp) (t : Stamp) → Among t ts → (j : ℕ) × (j < length ts) × (get_or ts j head ≡ t)
at-among [] t m = absurd m
at-among (s ∷ ts) t (inl e) = (0, omega arith, e)
at-among (s ∷ ts) t (inr m) = let r = at-among ts t m in let l : r.0 < length ts = r.1 in (suc r.0, omega arith, r.2)

pub among-walk_from : (xs : List Insertion) (s : Stamp) (y : Insertion) → Among y (walk_from xs s) → Among y xs
among-walk_from xs s y m = each-among (λ z. Among z xs) (walk_from xs s) y (walk-each (λ z. Among z xs) xs s (each-from_among (λ z. Among z xs) xs (λ z n. n))) m

pub length-insert : {A : Type 0} (xs : List A) (i : ℕ) (x : A) → length (insert xs i x) ≡ suc (length xs)
length-insert xs zero x = refl
length-insert [] (suc i) x = refl
length-insert (y ∷ xs) (suc i) x = ap suc (length-insert xs i x)

pub insert-low : (ts : List Stamp) (i : ℕ) (s : Stamp) (j : ℕ) → j < i → i ≤ length ts → get_or (insert ts i s) j head ≡ get_or ts j head
insert-low ts zero s j lt le = absurd (omega arith)
insert-low [] (suc i) s j lt le = absurd (omega arith)
insert-low (t ∷ ts) (suc i) s zero lt le = refl
insert-low (t ∷ ts) (suc i) s (suc j) lt le = insert-low ts i s j (omega arith) (omega arith)

pub insert-high : (ts : List Stamp) (i : ℕ) (s : Stamp) (j : ℕ) → i ≤ j → i ≤ length ts → get_or (insert ts i s) (suc j) head ≡ get_or ts j head
insert-high ts zero s j l le = refl
insert-high [] (suc i) s j l le = absurd (omega arith)
insert-high (t ∷ ts) (suc i) s zero l le = absurd (omega arith)
insert-high (t ∷ ts) (suc i) s (suc j) l le = insert-high ts i s j (omega arith) (omega arith)

-- ---- entries, and the walk behind them

pub bare-entries : (h : OpSet) (w : List Insertion) → map bare (map (entry_of h) w) ≡ map bare_of w
bare-entries h [] = refl
bare-entries h (x ∷ w) = ap (λ l. bare_of x ∷ l) (bare-entries h w)

pub bare-mark : (es : List Entry) (i : ℕ) → map bare (with_mark es i) ≡ map bare es
bare-mark [] i = refl
bare-mark (e ∷ es) zero = refl
bare-mark (e ∷ es) (suc i) = ap (λ l. bare e ∷ l) (bare-mark es i)

pub stamps-bare : (es : List Entry) → stamps_of es ≡ map (λ (b : Stamp × Symbol). b.0) (map bare es)
stamps-bare [] = refl
stamps-bare (e ∷ es) = ap (λ l. e.stamp ∷ l) (stamps-bare es)

bare-stamps : (w : List Insertion) → map (λ (b : Stamp × Symbol). b.0) (map bare_of w) ≡ map (λ (x : Insertion). x.stamp) w
bare-stamps [] = refl
bare-stamps (x ∷ w) = ap (λ l. x.stamp ∷ l) (bare-stamps w)

pub stamps-walk : (es : List Entry) (w : List Insertion) → map bare es ≡ map bare_of w → stamps_of es ≡ map (λ (x : Insertion). x.stamp) w
stamps-walk es w e = stamps-bare es ∙ ap (map (λ (b : Stamp × Symbol). b.0)) e ∙ bare-stamps w

-- entries of a walk with the marks of the set are the set's
pub entries-are : (h : OpSet) (es : List Entry) (w : List Insertion) → map bare es ≡ map bare_of w → ((e : Entry) → Among e es → e.deleted ≡ is_deleted_in h e.stamp) → es ≡ map (entry_of h) w
entries-are h [] [] e m = refl
entries-are h [] (x ∷ w) e m = cc
entries-are h (y ∷ es) [] e m = cc
entries-are h (y ∷ es) (x ∷ w) e m =
    let first : bare y ≡ bare_of x = cc in
    let later : map bare es ≡ map bare_of w = cc in
    let stamp : y.stamp ≡ x.stamp = ap (λ (b : Stamp × Symbol). b.0) first in
    let symbol : y.symbol ≡ x.symbol = ap (λ (b : Stamp × Symbol). b.1) first in
    let mark : y.deleted ≡ is_deleted_in h x.stamp = m y (inl refl) ∙ ap (is_deleted_in h) stamp in
    let one : y ≡ entry_of h x = λ i. record { stamp = stamp i; symbol = symbol i; deleted = mark i } in
    ap (λ (f : Entry). f ∷ es) one ∙ ap (λ l. entry_of h x ∷ l) (entries-are h es w later (λ f n. m f (inr n)))

-- ---- distinct places

pub absent-among : (s : Stamp) (es : List Entry) → IsAbsent s es → Among s (stamps_of es) → ⊥
absent-among s [] a m = absurd m
absent-among s (e ∷ es) a (inl i) = true≢false (sym (same-from e.stamp s i) ∙ a.0)
absent-among s (e ∷ es) a (inr m) = absent-among s es a.1 m

pub absent-from : (s : Stamp) (es : List Entry) → (Among s (stamps_of es) → ⊥) → ((t : Stamp) → same t s ≡ true → t ≡ s) → IsAbsent s es
absent-from s [] none one = tt
absent-from s (e ∷ es) none one = (not_same (same e.stamp s) refl, absent-from s es (λ m. none (inr m)) one)
  where
    not_same : (b : Bool) → same e.stamp s ≡ b → same e.stamp s ≡ false
    not_same true k = absurd (none (inl (one e.stamp k)))
    not_same false k = k

pub one-place : (es : List Entry) → AreDistinct es → (i j : ℕ) → i < length es → j < length es → get_or (stamps_of es) i head ≡ get_or (stamps_of es) j head → i ≡ j
one-place [] d i j li lj e = absurd (omega arith)
one-place (x ∷ es) d zero zero li lj e = refl
one-place (x ∷ es) d zero (suc j) li lj e = absurd (absent-among x.stamp es d.0 (subst (λ s. Among s (stamps_of es)) (sym e) (among-at (stamps_of es) j (let n : length (stamps_of es) ≡ length es = length-stamps es in omega arith))))
one-place (x ∷ es) d (suc i) zero li lj e = absurd (absent-among x.stamp es d.0 (subst (λ s. Among s (stamps_of es)) e (among-at (stamps_of es) i (let n : length (stamps_of es) ≡ length es = length-stamps es in omega arith))))
one-place (x ∷ es) d (suc i) (suc j) li lj e = ap suc (one-place es d.1 i j (omega arith) (omega arith) e)

-- ---- a mark

-- an entry of the marked list: the marked one, or one of another stamp
pub among-mark : (es : List Entry) (i : ℕ) → AreDistinct es → i < length es → (e : Entry) → Among e (with_mark es i)
    → ((e.stamp ≡ get_or (stamps_of es) i head) × (e.deleted ≡ true)) ⊎ (Among e es × (e.stamp ≡ get_or (stamps_of es) i head → ⊥))
among-mark [] i d lt e m = absurd (omega arith)
among-mark (x ∷ es) zero d lt e (inl k) = inl (sym (ap (λ (y : Entry). y.stamp) k), sym (ap (λ (y : Entry). y.deleted) k))
among-mark (x ∷ es) zero d lt e (inr m) = inr (inr m, λ k. absent-among x.stamp es d.0 (subst (λ s. Among s (stamps_of es)) k (map-among (λ (y : Entry). y.stamp) es e m)))
among-mark (x ∷ es) (suc i) d lt e (inl k) =
    inr (inl k, λ j. absent-among x.stamp es d.0 (subst (λ s. Among s (stamps_of es)) (sym j ∙ sym (ap (λ (y : Entry). y.stamp) k)) (among-at (stamps_of es) i (let n : length (stamps_of es) ≡ length es = length-stamps es in omega arith))))
among-mark (x ∷ es) (suc i) d lt e (inr m) = go (among-mark es i d.1 (omega arith) e m)
  where
    go : ((e.stamp ≡ get_or (stamps_of es) i head) × (e.deleted ≡ true)) ⊎ (Among e es × (e.stamp ≡ get_or (stamps_of es) i head → ⊥))
        → ((e.stamp ≡ get_or (stamps_of es) i head) × (e.deleted ≡ true)) ⊎ (Among e (x ∷ es) × (e.stamp ≡ get_or (stamps_of es) i head → ⊥))
    go (inl k) = inl k
    go (inr k) = inr (inr k.0, k.1)

pub length-mark : (es : List Entry) (i : ℕ) → length (with_mark es i) ≡ length es
length-mark [] i = refl
length-mark (e ∷ es) zero = refl
length-mark (e ∷ es) (suc i) = ap suc (length-mark es i)

-- a stamp that is not the head's and that no entry bears stands at no place
pub no-place : (es : List Entry) (s : Stamp) → is_head s ≡ false → IsAbsent s es → (j : ℕ) → j < length (places es) → place_at es j ≡ s → ⊥
no-place es s h a zero lt e = true≢false (ap is_head e ∙ h)
no-place es s h a (suc j) lt e = absent-among s es a (subst (λ t. Among t (stamps_of es)) e (among-at (stamps_of es) j (omega arith)))
