-- Entries in their order.
use Rattle.std.proofs.Common.{◌≡◌, ℕ, zero, suc, ◌+◌, ◌<◌, Bool, true, false, not, cond, List, [], ◌∷◌, map, length, get_or, take, set, refl, sym, ap, ◌∙◌, subst, arith, ◌⊎◌, inl, inr}
use Rattle.std.specs.Prelude.{Option, Some, None, IsSome, IfSome}
use Rattle.std.specs.List.{insert, Contains}
use Rattle.std.proofs.lemmas.Bool.{true≢false, cases_eq, not-true}
use Rattle.std.proofs.lemmas.List.{get_or_default}
use Rattle.desk_ops.specs.declared.op.Stamp.{Stamp}
use Rattle.desk_ops.specs.Op.{Insertion}
use Rattle.desk_ops.specs.Stamp.{same, head}
use Rattle.desk_ops.specs.Walk.{walk_from}
use Rattle.desk_ops.specs.Scan.{with_insert}
use Rattle.desk_ops.specs.Place.{IsPlace, IsStart}
use Rattle.desk_ops.proofs.Stamps.{same-true, same-from, same-symm}
use Rattle.desk_ops.proofs.Scans.{place-walk}
use Rattle.desk_ops.proofs.Places.{scan-at}
use Rattle.desk_seq.specs.declared.Entry.{Entry}
use Rattle.desk_seq.specs.Entries.{stamps_of, IsAbsent, AreDistinct, IsFoundAt, marked, with_mark, shown_in, IsShownAt, KeepsWalk}

pub absent-at : (s : Stamp) (es : List Entry) (k : ℕ) → IsAbsent s es → k < length es → same (get_or (stamps_of es) k head) s ≡ false
absent-at s [] k a l = absurd (omega arith)
absent-at s (e ∷ es) zero a l = a.0
absent-at s (e ∷ es) (suc k) a l = absent-at s es k a.1 (omega arith)

pub absent-from : (s : Stamp) (es : List Entry) → ((k : ℕ) → k < length es → same (get_or (stamps_of es) k head) s ≡ false) → IsAbsent s es
absent-from s [] h = tt
absent-from s (e ∷ es) h = (h 0 (omega arith), absent-from s es (λ k l. h (suc k) (omega arith)))

pub absent-insert : (s : Stamp) (es : List Entry) (i : ℕ) (e : Entry) → IsAbsent s es → same e.stamp s ≡ false → IsAbsent s (insert es i e)
absent-insert s es zero e a h = (h, a)
absent-insert s [] (suc i) e a h = (h, tt)
absent-insert s (x ∷ es) (suc i) e a h = (a.0, absent-insert s es i e a.1 h)

same-turned : (a b : Stamp) → same a b ≡ false → same b a ≡ false
same-turned a b h = rw (same-symm b a) h

pub distinct-insert : (es : List Entry) (i : ℕ) (e : Entry) → AreDistinct es → IsAbsent e.stamp es → AreDistinct (insert es i e)
distinct-insert es zero e d a = (a, d)
distinct-insert [] (suc i) e d a = (tt, tt)
distinct-insert (x ∷ es) (suc i) e d a = (absent-insert x.stamp es i e d.0 (same-turned x.stamp e.stamp a.0), distinct-insert es i e d.1 a.1)

pub set-mark : (es : List Entry) (i : ℕ) (d : Entry) → set es i (marked (get_or es i d)) ≡ with_mark es i
set-mark [] i d = refl
set-mark (e ∷ es) zero d = refl
set-mark (e ∷ es) (suc i) d = ap (λ l. e ∷ l) (set-mark es i d)

pub absent-mark : (s : Stamp) (es : List Entry) (i : ℕ) → IsAbsent s es → IsAbsent s (with_mark es i)
absent-mark s [] i a = tt
absent-mark s (e ∷ es) zero a = a
absent-mark s (e ∷ es) (suc i) a = (a.0, absent-mark s es i a.1)

pub distinct-mark : (es : List Entry) (i : ℕ) → AreDistinct es → AreDistinct (with_mark es i)
distinct-mark [] i d = tt
distinct-mark (e ∷ es) zero d = d
distinct-mark (e ∷ es) (suc i) d = (absent-mark e.stamp es i d.0, distinct-mark es i d.1)

pub map-insert : {A B : Type 0} (f : A → B) (xs : List A) (i : ℕ) (x : A) → map f (insert xs i x) ≡ insert (map f xs) i (f x)
map-insert f xs zero x = refl
map-insert f [] (suc i) x = refl
map-insert f (y ∷ xs) (suc i) x = ap (λ l. f y ∷ l) (map-insert f xs i x)

pub length-stamps : (es : List Entry) → length (stamps_of es) ≡ length es
length-stamps [] = refl
length-stamps (e ∷ es) = ap suc (length-stamps es)

pub stamps-mark : (es : List Entry) (i : ℕ) → stamps_of (with_mark es i) ≡ stamps_of es
stamps-mark [] i = refl
stamps-mark (e ∷ es) zero = refl
stamps-mark (e ∷ es) (suc i) = ap (λ l. e.stamp ∷ l) (stamps-mark es i)

pub start-head : (ts : List Stamp) (p : Stamp) → same head p ≡ true → IsStart ts p 0
start-head ts p h = inl (sym (same-true head p h), refl)

pub start-none : (es : List Entry) (p : Stamp) → same head p ≡ false → (p ≡ head) ⊎ Contains (stamps_of es) p → IsAbsent p es → ⊥
start-none es p h (inl e) a = true≢false (sym (same-from head p (sym e)) ∙ h)
start-none es p h (inr c) a =
    let lt : c.0 < length (stamps_of es) = c.1 in
    true≢false (sym (same-from (get_or (stamps_of es) c.0 head) p (get_or_default (stamps_of es) c.0 head p lt ∙ c.2)) ∙ absent-at p es c.0 a (subst (λ n. c.0 < n) (length-stamps es) lt))

pub keeps-walk : (old new : List Entry) (p : Stamp) (e : Entry) (i : ℕ) → IsPlace (stamps_of old) p e.stamp i → new ≡ insert old i e → KeepsWalk old new p e.stamp
keeps-walk old new p e i at is = λ xs x up nh next es ep w.
    let st = λ (y : Insertion). y.stamp in
    let at2 : IsPlace (map st (walk_from xs head)) x.parent x.stamp i = subst (λ (ts : List Stamp). IsPlace ts x.parent x.stamp i) w (subst (λ (q : Stamp). IsPlace (stamps_of old) q x.stamp i) (sym ep) (subst (λ (q : Stamp). IsPlace (stamps_of old) p q i) (sym es) at)) in
    let law2 : walk_from (with_insert x xs) head ≡ insert (walk_from xs head) i x = place-walk x xs up next head nh ∙ scan-at x (walk_from xs head) i at2 in
    ap stamps_of is
    ∙ map-insert (λ (y : Entry). y.stamp) old i e
    ∙ ap (λ (ts : List Stamp). insert ts i e.stamp) w
    ∙ ap (λ (q : Stamp). insert (map st (walk_from xs head)) i q) (sym es)
    ∙ sym (map-insert st (walk_from xs head) i x)
    ∙ ap (λ (l : List Insertion). map st l) (sym law2)

-- ---- the count of what is shown

pub shown-hit : (es : List Entry) (n : ℕ) (d : Entry) → n < length es → (get_or es n d).deleted ≡ false → shown_in (take (suc n) es) ≡ shown_in (take n es) + 1
shown-hit [] n d l h = absurd (omega arith)
shown-hit (e ∷ es) zero d l h = rw h refl
shown-hit (e ∷ es) (suc n) d l h = step e.deleted (shown_in (take (suc n) es)) (shown_in (take n es)) (shown-hit es n d (omega arith) h)
  where
    step : (b : Bool) (x y : ℕ) → x ≡ y + 1 → cond b x (x + 1) ≡ cond b y (y + 1) + 1
    step true x y h = h
    step false x y h = omega arith

pub shown-miss : (es : List Entry) (n : ℕ) (d : Entry) → n < length es → (get_or es n d).deleted ≡ true → shown_in (take (suc n) es) ≡ shown_in (take n es)
shown-miss [] n d l h = absurd (omega arith)
shown-miss (e ∷ es) zero d l h = rw h refl
shown-miss (e ∷ es) (suc n) d l h = ap (λ (x : ℕ). cond e.deleted x (x + 1)) (shown-miss es n d (omega arith) h)

-- ---- a search from the front, and a scan

pub stamps-at : (es : List Entry) (k : ℕ) (d : Entry) → k < length es → get_or (stamps_of es) k head ≡ (get_or es k d).stamp
stamps-at [] k d l = absurd (omega arith)
stamps-at (e ∷ es) zero d l = refl
stamps-at (e ∷ es) (suc k) d l = stamps-at es k d (omega arith)

-- one place more
pub none_more : (P : ℕ → Type 0) (n : ℕ) → ((k : ℕ) → k < n → P k) → P n → (k : ℕ) → k < n + 1 → P k
none_more P n h p k l = or (cases_eq k n)
  where
    or : (k ≡ n) ⊎ (k ≡ n → ⊥) → P k
    or (inl q) = subst P (sym q) p
    or (inr q) = h k (omega arith)

pub shown-at : (es : List Entry) (n i : ℕ) (e : Entry) → n < length es → e ≡ get_or es n e → not e.deleted ≡ true → shown_in (take n es) ≡ i → IsShownAt es i n
shown-at es n i e l is h c = record { within = l; shown = λ d. ap (λ (x : Entry). x.deleted) (get_or_default es n d e l) ∙ ap (λ (x : Entry). x.deleted) (sym is) ∙ not-true e.deleted h; before_it = c }

pub found-at : (es : List Entry) (s : Stamp) (k : ℕ) (d : Entry) → k < length es → same (get_or es k d).stamp s ≡ true → ((j : ℕ) → j < k → same (get_or (stamps_of es) j head) s ≡ false) → IsFoundAt (stamps_of es) s k
found-at es s k d l h none = record { within = rw (length-stamps es) l; is = stamps-at es k d l ∙ same-true (get_or es k d).stamp s h; first = none }

-- ---- a sequence from a list

turned-absent : (es : List Entry) (s : Stamp) (i : ℕ) (d : Entry) → IsAbsent s es → i < length es → same s (get_or es i d).stamp ≡ false
turned-absent [] s i d a l = absurd (omega arith)
turned-absent (e ∷ es) s zero d a l = same-turned e.stamp s a.0
turned-absent (e ∷ es) s (suc i) d a l = turned-absent es s i d a.1 (omega arith)

-- the i-th has a stamp that none before it has
pub absent-before : (es : List Entry) (i : ℕ) (d : Entry) → AreDistinct es → i < length es → IsAbsent (get_or es i d).stamp (take i es)
absent-before [] i d a l = absurd (omega arith)
absent-before (e ∷ es) zero d a l = tt
absent-before (e ∷ es) (suc i) d a l = (turned-absent es e.stamp i d a.0 (omega arith), absent-before es i d a.1 (omega arith))

-- what was found is one of them
pub found-contains : (ts : List Stamp) (s : Stamp) (r : Option ℕ) → IsSome r → IfSome r (λ i. IsFoundAt ts s i) → Contains ts s
found-contains ts s None some f = absurd (true≢false (sym some))
found-contains ts s (Some i) some f = (i, f.within, get_or_default ts i s head f.within ∙ f.is)
