-- How many are picked, page by page.
use Rattle.std.proofs.Common.{◌≡◌, Bool, true, false, ℕ, ◌⊎◌, inl, inr, zero, suc, ◌+◌, ◌-◌, ◌<◌, ◌≤◌, List, [], ◌∷◌, ◌++◌, length, get_or, take, drop, refl, sym, ap, ◌∙◌, subst, arith, append_assoc, append-nil, add-one, cond, length-drop, Result, Ok, Err}
use Rattle.std.specs.Prelude.{IfOk, IfErr}
use Rattle.std.specs.List.{count_by}
use Rattle.std.proofs.lemmas.Bool.{true≢false, cases_lt}
use Rattle.std.proofs.lemmas.List.Sums.{sum_by-append, count_by-le-length, count_by_more_no}
use Rattle.std.proofs.lemmas.List.{get_or_read, take-append-drop, length-take-le}
use Rattle.list_pages.specs.Pages.{joined, start_of, IsSpot, AreHalfFull, IsHalfFull, ends_in, IsEdge, IsNth, IsShort}
use Rattle.list_pages.proofs.Cuts.{start-more, start-le, take-joined, take-start, entry-joined, joined-past}

-- what follows for what is found, or for what is missing
pub if-ok : {A E : Type 0} (r : Result A E) (P Q : A → Type 0) → ((x : A) → P x → Q x) → IfOk r P → IfOk r Q
if-ok (Ok x) P Q f h = f x h
if-ok (Err e) P Q f h = tt

pub if-err : {A E : Type 0} (r : Result A E) (P Q : E → Type 0) → ((e : E) → P e → Q e) → IfErr r P → IfErr r Q
if-err (Ok x) P Q f h = tt
if-err (Err e) P Q f h = f e h

pub joined-more : {X : Type 0} (pages : List (List X)) (n : ℕ) → n < length pages → joined (take (suc n) pages) ≡ joined (take n pages) ++ get_or pages n []
joined-more [] n l = absurd (omega arith)
joined-more (r ∷ pages) zero l = append-nil r
joined-more (r ∷ pages) (suc n) l = ap (λ x. r ++ x) (joined-more pages n (omega arith)) ∙ sym (append_assoc r (joined (take n pages)) (get_or pages n []))

pub count-append : {X : Type 0} (picks : X → Bool) (xs ys : List X) → count_by picks (xs ++ ys) ≡ count_by picks xs + count_by picks ys
count-append picks xs ys = sum_by-append (λ x. cond (picks x) 1 0) xs ys

pub count-page : {X : Type 0} (picks : X → Bool) (pages : List (List X)) (n : ℕ) → n < length pages → count_by picks (joined (take (suc n) pages)) ≡ count_by picks (joined (take n pages)) + count_by picks (get_or pages n [])
count-page picks pages n l = ap (count_by picks) (joined-more pages n l) ∙ count-append picks (joined (take n pages)) (get_or pages n [])

pub count-at : {X : Type 0} (picks : X → Bool) (pages : List (List X)) (p j : ℕ) → p < length pages → j ≤ length (get_or pages p []) → count_by picks (take (start_of pages p + j) (joined pages)) ≡ count_by picks (joined (take p pages)) + count_by picks (take j (get_or pages p []))
count-at picks pages p j l k = ap (count_by picks) (take-joined pages p j l k) ∙ count-append picks (joined (take p pages)) (take j (get_or pages p []))

pub count-start : {X : Type 0} (picks : X → Bool) (pages : List (List X)) (p : ℕ) → count_by picks (take (start_of pages p) (joined pages)) ≡ count_by picks (joined (take p pages))
count-start picks pages p = ap (count_by picks) (take-start pages p)

-- a place in a page is within the whole
pub page-within : {X : Type 0} (pages : List (List X)) (p j : ℕ) → p < length pages → j < length (get_or pages p []) → start_of pages p + j < length (joined pages)
page-within pages p j l k = let s = start-more pages p l in let t = start-le pages (suc p) in omega arith

pub page-fits : {X : Type 0} (pages : List (List X)) (p : ℕ) → p < length pages → start_of pages p + length (get_or pages p []) ≤ length (joined pages)
page-fits pages p l = let s = start-more pages p l in let t = start-le pages (suc p) in omega arith

-- one more is picked where the count rises
pub picked-where-more : {X : Type 0} (picks : X → Bool) (xs : List X) (n : ℕ) (d : X) → n < length xs → count_by picks (take n xs) < count_by picks (take (n + 1) xs) → picks (get_or xs n d) ≡ true
picked-where-more picks xs n d l e = or (picks (get_or xs n d)) refl
  where
    or : (b : Bool) → picks (get_or xs n d) ≡ b → picks (get_or xs n d) ≡ true
    or true q = q
    or false q = let m = count_by_more_no picks xs n d l q in absurd (omega (arith, m, e))

-- where all are picked, the first n count n
pub count-all : {X : Type 0} (picks : X → Bool) (xs : List X) (n : ℕ) → length xs ≤ count_by picks xs → n ≤ length xs → count_by picks (take n xs) ≡ n
count-all picks xs n e l =
    let w = ap (count_by picks) (take-append-drop n xs) in
    let c = count-append picks (take n xs) (drop n xs) in
    let a = count_by-le-length picks (take n xs) in
    let b = count_by-le-length picks (drop n xs) in
    let t = length-take-le n xs l in
    let d = length-drop n xs in
    omega (arith, w, c)

-- where all are picked, the n-th stands at place n
pub nth-all : {X : Type 0} (picks : X → Bool) (xs : List X) (n : ℕ) → length xs ≤ count_by picks xs → n < length xs → IsNth picks xs 0 n n
nth-all picks xs n e l =
    let a = count-all picks xs n e (omega (arith, l)) in
    let b = count-all picks xs (n + 1) e (omega (arith, l)) in
    record {
      after = omega arith;
      within = l;
      picked = λ d. picked-where-more picks xs n d l (omega (arith, a, b));
      count = let z : count_by picks (take n xs) ≡ 0 + n = omega (arith, a) in z;
    }

-- found in a page, where low of them are picked in it before
pub nth-joined : {X : Type 0} (picks : X → Bool) (pages : List (List X)) (p low left j from n : ℕ) → p < length pages → IsNth picks (get_or pages p []) low left j → from ≤ start_of pages p + j → count_by picks (joined (take p pages)) + (count_by picks (take low (get_or pages p [])) + left) ≡ count_by picks (take from (joined pages)) + n → IsNth picks (joined pages) from n (start_of pages p + j)
nth-joined picks pages p low left j from n l h f e =
    let w = h.within in
    let c = count-at picks pages p j l (omega arith) in
    let k = h.count in
    record {
      after = f;
      within = page-within pages p j l w;
      picked = λ d. ap picks (entry-joined pages p j d l w) ∙ h.picked d;
      count = omega arith;
    }

-- the n-th from a place is the left-th from a later one, before which so many less are picked
pub nth-later : {X : Type 0} (picks : X → Bool) (xs : List X) (from later left n place : ℕ) → IsNth picks xs later left place → from ≤ later → count_by picks (take later xs) + left ≡ count_by picks (take from xs) + n → IsNth picks xs from n place
nth-later picks xs from later left n place h f e = record { after = let a = h.after in omega arith; within = h.within; picked = h.picked; count = let c = h.count in omega arith }

pub short-page : {X : Type 0} (picks : X → Bool) (pages : List (List X)) (p j n left : ℕ) → p < length pages → j ≤ length (get_or pages p []) → IsShort picks (get_or pages p []) j n left → count_by picks (take (start_of pages (p + 1)) (joined pages)) + left ≡ count_by picks (take (start_of pages p + j) (joined pages)) + n
short-page picks pages p j n left l k h = rw add-one (
    let a = count-at picks pages p j l k in
    let b = count-start picks pages (suc p) in
    let c = count-page picks pages p l in
    omega arith)

pub next-page : {X : Type 0} (pages : List (List X)) (p : ℕ) → p < length pages → start_of pages (p + 1) ≡ start_of pages p + length (get_or pages p [])
next-page pages p l = rw add-one (start-more pages p l)

-- the page before one
pub page-back : {X : Type 0} (pages : List (List X)) (at : ℕ) → at ≤ length pages → 0 < at → (at - 1 + 1 ≡ at) × (at - 1 < length pages) × (start_of pages at ≡ start_of pages (at - 1) + length (get_or pages (at - 1) []))
page-back pages zero l p = absurd (omega arith)
page-back pages (suc q) l p = let e : suc q - 1 ≡ q = omega arith in (omega arith, omega arith, rw e (start-more pages q (omega arith)))

pub next-start : {X : Type 0} (pages : List (List X)) (from p j n : ℕ) → IsSpot pages from p j → n ≡ length (get_or pages p []) → from - j + n ≡ start_of pages (p + 1)
next-start pages from p j n s k =
    let m = next-page pages p s.within in
    let is = s.is in
    omega arith

-- ---- the edge of what is picked

pub halves-some : {X : Type 0} (pages : List (List X)) (k : ℕ) → AreHalfFull pages → k < length pages → 0 < length (get_or pages k [])
halves-some [] k h l = absurd (omega arith)
halves-some (r ∷ []) zero h l = let a : 1 ≤ length r = h in omega arith
halves-some (r ∷ []) (suc k) h l = absurd (omega arith)
halves-some (r ∷ s ∷ pages) zero h l = let a : 128 ≤ length r = h.0 in omega arith
halves-some (r ∷ s ∷ pages) (suc k) h l = halves-some (s ∷ pages) k h.1 (omega arith)

pub half-some : {X : Type 0} (pages : List (List X)) (k : ℕ) → IsHalfFull pages → k < length pages → 0 < length (get_or pages k [])
half-some [] k h l = absurd (omega arith)
half-some (r ∷ pages) zero h l = let a : 1 ≤ length r = h.0 in omega arith
half-some (r ∷ pages) (suc k) h l = halves-some pages k h.1 (omega arith)

pub ends-last : {X : Type 0} (picks : X → Bool) (r : List X) (d : X) → 0 < length r → ends_in picks r ≡ picks (get_or r (length r - 1) d)
ends-last picks [] d l = absurd (omega arith)
ends-last picks (x ∷ []) d l = refl
ends-last picks (x ∷ y ∷ r) d l =
    ends-last picks (y ∷ r) d (omega arith)
    ∙ ap (λ (n : ℕ). picks (get_or (y ∷ r) n d)) (let e : suc (length r) - 1 ≡ length r = omega arith in e)
    ∙ ap (λ (n : ℕ). picks (get_or (x ∷ y ∷ r) n d)) (let e : suc (length r) ≡ suc (suc (length r)) - 1 = omega arith in e)

-- a page that was read, and its last
pub ends-read : {X : Type 0} (picks : X → Bool) (pages : List (List X)) (k : ℕ) (r d : List X) (x : X) → IsHalfFull pages → k < length pages → r ≡ get_or pages k r → x ≡ get_or r (length r - 1) x → ends_in picks (get_or pages k d) ≡ picks x
ends-read picks pages k r d x h l e q =
    ap (ends_in picks) (sym (get_or_read pages k r l e d))
    ∙ ends-last picks r x (subst (λ (z : List _). 0 < length z) (sym (get_or_read pages k r l e [])) (half-some pages k h l))
    ∙ ap picks (sym q)

-- the one before the first of page p is the last of the page before
pub last_of_pages : {X : Type 0} (picks : X → Bool) (pages : List (List X)) (p j : ℕ) (d : X) → IsHalfFull pages → IsEdge (ends_in picks) pages p → p ≤ length pages → j ≡ 0 → 0 < start_of pages p + j → picks (get_or (joined pages) (start_of pages p + j - 1) d) ≡ true
last_of_pages picks pages zero j d h e l z q = absurd (omega arith)
last_of_pages picks pages (suc p) j d h e l z q =
    let some = half-some pages p h (omega arith) in
    let s = start-more pages p (omega arith) in
    let n : length (get_or pages p []) - 1 < length (get_or pages p []) = omega arith in
    ap (λ (n : ℕ). picks (get_or (joined pages) n d)) (let q : start_of pages (suc p) + j - 1 ≡ start_of pages p + (length (get_or pages p []) - 1) = omega arith in q)
    ∙ ap picks (entry-joined pages p (length (get_or pages p []) - 1) d (omega arith) n)
    ∙ sym (ends-last picks (get_or pages p []) d some)
    ∙ ap (λ (n : ℕ). ends_in picks (get_or pages n [])) (let q : p ≡ suc p - 1 = omega arith in q)
    ∙ e.below [] (omega arith)

pub edge-end : {X : Type 0} (picks : X → Bool) (pages : List (List X)) (p : ℕ) → IsHalfFull pages → IsEdge (ends_in picks) pages p → length pages ≤ p → IsEdge picks (joined pages) (start_of pages p + 0)
edge-end picks pages p h e l =
    let w = e.within in
    let a = ap length (joined-past pages p l) in
    record { within = omega arith; below = λ d z. last_of_pages picks pages p 0 d h e w refl z; stops = λ d z. absurd (omega arith) }

-- the edge among the pages and that in one page are the edge of all
pub edge-joined : {X : Type 0} (picks : X → Bool) (pages : List (List X)) (p j : ℕ) → IsHalfFull pages → IsEdge (ends_in picks) pages p → p < length pages → IsEdge picks (get_or pages p []) j → (j < length (get_or pages p [])) × IsEdge picks (joined pages) (start_of pages p + j)
edge-joined {X} picks pages p j h e l i = (inside, record { within = let f = page-fits pages p l in omega (arith, i.within); below = below; stops = λ d _. ap picks (entry-joined pages p j d l inside) ∙ i.stops d inside })
  where
    some : 0 < length (get_or pages p [])
    some = half-some pages p h l

    inside : j < length (get_or pages p [])
    inside = or (cases_lt j (length (get_or pages p [])))
      where
        or : (j < length (get_or pages p [])) ⊎ (length (get_or pages p []) ≤ j) → j < length (get_or pages p [])
        or (inl a) = a
        or (inr a) = absurd (true≢false (clash (first (get_or pages p []) some)))
          where
            first : (xs : List X) → 0 < length xs → X
            first [] q = absurd (omega arith)
            first (x ∷ xs) q = x

            clash : X → true ≡ false
            clash d =
                sym (i.below d (omega (arith, some)))
                ∙ ap (λ (n : ℕ). picks (get_or (get_or pages p []) n d)) (let q : j - 1 ≡ length (get_or pages p []) - 1 = omega (arith, i.within) in q)
                ∙ sym (ends-last picks (get_or pages p []) d some)
                ∙ e.stops [] l

    below : (d : X) → 0 < start_of pages p + j → picks (get_or (joined pages) (start_of pages p + j - 1) d) ≡ true
    below d z = or (cases_lt 0 j)
      where
        or : (0 < j) ⊎ (j ≤ 0) → picks (get_or (joined pages) (start_of pages p + j - 1) d) ≡ true
        or (inl a) =
            ap (λ (n : ℕ). picks (get_or (joined pages) n d)) (let q : start_of pages p + j - 1 ≡ start_of pages p + (j - 1) = omega arith in q)
            ∙ ap picks (entry-joined pages p (j - 1) d l (omega (arith, inside)))
            ∙ i.below d a
        or (inr a) = last_of_pages picks pages p j d h e (omega arith) (omega arith) z
