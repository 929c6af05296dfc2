-- What a page's tally says.
use Rattle.std.proofs.Common.{◌≡◌, Bool, true, false, cond, ℕ, zero, suc, ◌+◌, ◌-◌, ◌<◌, List, [], ◌∷◌, ◌++◌, length, get_or, take, drop, set, refl, sym, ap, ◌∙◌, subst, arith}
use Rattle.std.specs.List.{count_by, AllByRecursion, insert}
use mir.Val.{bool_byte}
use Rattle.std.proofs.lemmas.Bool.{true≢false}
use Rattle.std.proofs.lemmas.List.{take_more}
use Rattle.std.proofs.lemmas.List.Edits.{insert_end}
use Rattle.std.proofs.lemmas.List.Sums.{sum_by-append, sum_by-cons, sum_by-insert, sum_by-set, count_by-le-length}
use Rattle.desk_ops.specs.declared.op.Stamp.{Stamp}
use Rattle.desk_ops.specs.Stamp.{before, same}
use Rattle.desk_ops.proofs.Stamps.{by_cases, before-trans, before-other, before-irrefl, same-true}
use Rattle.desk_ops.proofs.Lists.{Each-append}
use Rattle.desk_seq.specs.declared.Entry.{Entry}
use Rattle.desk_seq.specs.Entries.{marked, is_shown}
use Rattle.desk_blocks.specs.declared.tally.Tally.{Tally}
use Rattle.desk_blocks.specs.Tally.{is_smaller, IsTally}

each-insert : {A : Type 0} (P : A → Type 0) (xs : List A) (p : ℕ) (y : A) → AllByRecursion P xs → P y → AllByRecursion P (take p xs ++ y ∷ drop p xs)
each-insert P xs zero y a h = (h, a)
each-insert P [] (suc p) y a h = (h, tt)
each-insert P (x ∷ xs) (suc p) y a h = (a.0, each-insert P xs p y a.1 h)

each-map : {A : Type 0} (P Q : A → Type 0) → ((x : A) → P x → Q x) → (xs : List A) → AllByRecursion P xs → AllByRecursion Q xs
each-map P Q f [] a = tt
each-map P Q f (x ∷ xs) a = (f x a.0, each-map P Q f xs a.1)

-- with a stamp that none is smaller than, and that is no greater
pub lower : (s t u : Stamp) → before s t ≡ false → before u t ≡ true → before s u ≡ false
lower s t u a b = by_cases (before s u) (λ e. absurd (true≢false (sym (before-trans s u t e b) ∙ a))) (λ e. e)

-- none that is not smaller than t is smaller than a smaller u
pub higher : (s t u : Stamp) → before s t ≡ false → before t u ≡ false → before s u ≡ false
higher s t u a b = by_cases (before s u) (λ e. by_cases (same s t) (λ q. ap (λ (x : Stamp). before x u) (same-true s t q) ∙ b) (λ q. absurd (true≢false (sym (before-trans t s u (before-other s t a q) e) ∙ b)))) (λ e. e)

pub not-before-itself : (s : Stamp) → before s s ≡ false
not-before-itself s = by_cases (before s s) (λ e. absurd (before-irrefl s e)) (λ e. e)

pub tally-with : (t u : Tally) (xs : List Entry) (i : ℕ) (x : Entry) → IsTally t xs → u.shown ≡ t.shown + cond (is_shown x) 1 0 → before x.stamp u.least ≡ false → ((s : Stamp) → before s t.least ≡ false → before s u.least ≡ false) → IsTally u (insert xs i x)
tally-with t u xs i x h e n m = record {
  shown = let s = sum_by-insert (λ (y : Entry). cond (is_shown y) 1 0) xs i x in let a = h.shown in omega arith;
  least = each-insert (λ (y : Entry). before y.stamp u.least ≡ false) xs i x (each-map (λ (y : Entry). before y.stamp t.least ≡ false) (λ (y : Entry). before y.stamp u.least ≡ false) (λ y. m y.stamp) xs h.least) n;
}

pub tally-short : (t : Tally) (xs : List Entry) (n : ℕ) → IsTally t xs → length xs < n → t.shown < n
tally-short t xs n h l = let c = count_by-le-length is_shown xs in let a = h.shown in omega arith

each-set : {A : Type 0} (P : A → Type 0) (xs : List A) (i : ℕ) (y : A) → AllByRecursion P (insert xs i y) → AllByRecursion P (set xs i y)
each-set P [] i y a = tt
each-set P (x ∷ xs) zero y a = (a.0, a.1.1)
each-set P (x ∷ xs) (suc i) y a = (a.0, each-set P xs i y a.1)

-- one more, and the one that it stands for is counted no more
pub tally-replace : (t u : Tally) (xs : List Entry) (i : ℕ) (new old : Entry) → i < length xs → old ≡ get_or xs i old → IsTally t (insert xs i new) → u.least ≡ t.least → u.shown ≡ t.shown - cond (is_shown old) 1 0 → IsTally u (set xs i new)
tally-replace t u xs i new old l e h n m = record {
  shown =
      let a = sum_by-insert (λ (y : Entry). cond (is_shown y) 1 0) xs i new in
      let b = sum_by-set (λ (y : Entry). cond (is_shown y) 1 0) xs i new old l in
      let c = h.shown in
      let q : cond {A = ℕ} (is_shown old) 1 0 ≡ cond {A = ℕ} (is_shown (get_or xs i old)) 1 0 = ap (λ (y : Entry). cond {A = ℕ} (is_shown y) 1 0) e in
      omega (arith, a, b, c, q, m);
  least = rw n (each-set (λ (y : Entry). before y.stamp t.least ≡ false) xs i new h.least);
}

-- that of two lists in one
pub tally-join : (t v u : Tally) (xs ys : List Entry) → IsTally t xs → IsTally v ys → u.shown ≡ t.shown + v.shown → ((s : Stamp) → before s t.least ≡ false → before s u.least ≡ false) → ((s : Stamp) → before s v.least ≡ false → before s u.least ≡ false) → IsTally u (xs ++ ys)
tally-join t v u xs ys h k e f g = record {
  shown = let a = sum_by-append (λ (y : Entry). cond (is_shown y) 1 0) xs ys in let b = h.shown in let c = k.shown in omega arith;
  least = Each-append (λ (y : Entry). before y.stamp u.least ≡ false) xs ys
      (each-map (λ (y : Entry). before y.stamp t.least ≡ false) (λ (y : Entry). before y.stamp u.least ≡ false) (λ y. f y.stamp) xs h.least)
      (each-map (λ (y : Entry). before y.stamp v.least ≡ false) (λ (y : Entry). before y.stamp u.least ≡ false) (λ y. g y.stamp) ys k.least);
}

pub tally-next : (t : Tally) (page : List Entry) (k : ℕ) (d : Entry) → k < length page → IsTally t (insert (take k page) (length (take k page)) (get_or page k d)) → IsTally t (take (k + 1) page)
tally-next t page k d l h = subst (λ (ys : List Entry). IsTally t ys) (insert_end (take k page) (get_or page k d) ∙ sym (take_more page k d l)) h

pub none-smaller : (t : Tally) (s : Stamp) (es : List Entry) → IsTally t es → before t.least s ≡ false → count_by (is_smaller s) es ≡ 0
none-smaller t s es h b = go es h.least
  where
    go : (xs : List Entry) → AllByRecursion (λ (e : Entry). before e.stamp t.least ≡ false) xs → count_by (is_smaller s) xs ≡ 0
    go [] a = refl
    go (x ∷ xs) a = sum_by-cons (λ (y : Entry). cond (is_smaller s y) 1 0) x xs ∙ ap (λ (b : Bool). cond b 1 0 + count_by (is_smaller s) xs) (higher x.stamp t.least s a.0 b) ∙ ap (λ (n : ℕ). 0 + n) (go xs a.1)

bit : (b : Bool) → bool_byte b ≡ cond {A = ℕ} b 1 0
bit true = refl
bit false = refl

-- how many are shown, with one more and with a mark
pub shown-insert : (es : List Entry) (i : ℕ) (e : Entry) → count_by is_shown (insert es i e) ≡ count_by is_shown es + bool_byte (is_shown e)
shown-insert es i e = let s = sum_by-insert (λ (y : Entry). cond (is_shown y) 1 0) es i e in let b = bit (is_shown e) in omega (arith, s, b)

pub shown-mark : (es : List Entry) (i : ℕ) (d : Entry) → i < length es → d ≡ get_or es i d → count_by is_shown (set es i (marked d)) + bool_byte (is_shown d) ≡ count_by is_shown es
shown-mark es i d l e =
    let s = sum_by-set (λ (y : Entry). cond (is_shown y) 1 0) es i (marked d) d l in
    let b = bit (is_shown d) in
    let q : cond {A = ℕ} (is_shown d) 1 0 ≡ cond {A = ℕ} (is_shown (get_or es i d)) 1 0 = ap (λ (y : Entry). cond {A = ℕ} (is_shown y) 1 0) e in
    omega (arith, s, b, q)
