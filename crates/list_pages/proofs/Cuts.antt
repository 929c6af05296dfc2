-- Pages, and the list that they make.
use Rattle.std.proofs.Common.{◌≡◌, ℕ, zero, suc, ◌+◌, ◌-◌, ◌*◌, ◌<◌, ◌≤◌, List, [], ◌∷◌, ◌++◌, length, get_or, take, drop, set, refl, sym, ap, ◌∙◌, arith, append_assoc, add-one, ◌⊎◌, inl, inr, length-append, length-drop, length-take}
use Rattle.std.specs.List.{insert}
use Rattle.std.proofs.lemmas.List.{get_or_read, length-set, set-append_left, set-append_right, drop-drop, drop_at, take_at, drop-append-le, take-append-le, get_or_append_left, get_or-append-add, take-append-drop, append-nil}
use Rattle.std.proofs.lemmas.Bool.{cases_lt}
use Rattle.std.proofs.lemmas.List.Edits.{insert-append_left, insert-append_right, length-insert, insert_end}
use Rattle.list_pages.specs.Pages.{joined, start_of, IsSpot, IsSpotOrEnd, IsGap, AreHalfFull, IsHalfFull, IsClosed, spare_of, IsKept}
use Rattle.list_shelf.specs.Shelf.{cut_at}

-- ---- places

pub joined-past : {X : Type 0} (pages : List (List X)) (n : ℕ) → length pages ≤ n → joined (take n pages) ≡ joined pages
joined-past [] zero l = refl
joined-past [] (suc n) l = refl
joined-past (r ∷ pages) zero l = absurd (omega arith)
joined-past (r ∷ pages) (suc n) l = ap (λ x. r ++ x) (joined-past pages n (omega arith))

pub start-more : {X : Type 0} (pages : List (List X)) (n : ℕ) → n < length pages → start_of pages (suc n) ≡ start_of pages n + length (get_or pages n [])
start-more [] n l = absurd (omega arith)
start-more (r ∷ pages) zero l = let e = length-append r [] in omega arith
start-more (r ∷ pages) (suc n) l =
    let e = length-append r (joined (take (suc n) pages)) in
    let e2 = length-append r (joined (take n pages)) in
    let h = start-more pages n (omega arith) in
    omega arith

pub start-le : {X : Type 0} (pages : List (List X)) (n : ℕ) → start_of pages n ≤ length (joined pages)
start-le [] zero = omega arith
start-le [] (suc n) = omega arith
start-le (r ∷ pages) zero = omega arith
start-le (r ∷ pages) (suc n) =
    let e = length-append r (joined (take n pages)) in
    let e2 = length-append r (joined pages) in
    let h = start-le pages n in
    omega arith

pub spot : {X : Type 0} (pages : List (List X)) (p j : ℕ) → p < length pages → j < length (get_or pages p []) → IsSpot pages (start_of pages p + j) p j
spot pages p j l k = record { within = l; inside = k; is = refl }

-- ---- half full

pub half-cons : {X : Type 0} (r : List X) (pages : List (List X)) → 128 ≤ length r → AreHalfFull pages → AreHalfFull (r ∷ pages)
half-cons r [] l h = let k : 1 ≤ length r = omega arith in k
half-cons r (s ∷ pages) l h = (l, h)

halves-push : {X : Type 0} (pages : List (List X)) (y : List X) → 1 ≤ length y → AreHalfFull pages → IsClosed pages → AreHalfFull (pages ++ y ∷ [])
halves-push [] y l h c = l
halves-push (r ∷ []) y l h c = (omega arith, l)
halves-push (r ∷ s ∷ pages) y l h c = half-cons r ((s ∷ pages) ++ y ∷ []) h.0 (halves-push (s ∷ pages) y l h.1 c)

pub half-push : {X : Type 0} (pages : List (List X)) (y : List X) → 1 ≤ length y → IsHalfFull pages → IsClosed pages → IsHalfFull (pages ++ y ∷ [])
half-push [] y l h c = (l, tt)
half-push (r ∷ []) y l h c = (h.0, l)
half-push (r ∷ s ∷ pages) y l h c = (h.0, halves-push (s ∷ pages) y l h.1 c)

-- a page before one that is half full
pub half-first : {X : Type 0} (pages : List (List X)) (y : List X) → 1 ≤ length y → IsHalfFull pages → 128 ≤ length (get_or pages 0 []) → IsHalfFull (y ∷ pages)
half-first [] y l h f = (l, tt)
half-first (r ∷ pages) y l h f = (l, half-cons r pages f h.1)

halves-grow : {X : Type 0} (pages : List (List X)) (p : ℕ) (y : List X) → AreHalfFull pages → length (get_or pages p []) ≤ length y → AreHalfFull (set pages p y)
halves-grow [] p y h l = tt
halves-grow (r ∷ []) zero y h l = let a : 1 ≤ length r = h in let k : 1 ≤ length y = omega arith in k
halves-grow (r ∷ s ∷ pages) zero y h l = (let a : 128 ≤ length r = h.0 in omega arith, h.1)
halves-grow (r ∷ []) (suc p) y h l = h
halves-grow (r ∷ s ∷ pages) (suc p) y h l = half-cons r (set (s ∷ pages) p y) h.0 (halves-grow (s ∷ pages) p y h.1 l)

pub half-grow : {X : Type 0} (pages : List (List X)) (p : ℕ) (y : List X) → IsHalfFull pages → length (get_or pages p []) ≤ length y → IsHalfFull (set pages p y)
half-grow [] p y h l = tt
half-grow (r ∷ pages) zero y h l = (let a : 1 ≤ length r = h.0 in omega arith, h.1)
half-grow (r ∷ pages) (suc p) y h l = (h.0, halves-grow pages p y h.1 l)

halves-count : {X : Type 0} (pages : List (List X)) → AreHalfFull pages → 128 * (length pages - 1) ≤ length (joined pages)
halves-count [] h = omega arith
halves-count (r ∷ []) h = omega arith
halves-count (r ∷ s ∷ pages) h =
    let a : 128 ≤ length r = h.0 in
    let e = length-append r (joined (s ∷ pages)) in
    let k = halves-count (s ∷ pages) h.1 in
    omega arith

pub half-count : {X : Type 0} (pages : List (List X)) → IsHalfFull pages → 128 * (length pages - 2) ≤ length (joined pages)
half-count [] h = omega arith
half-count (r ∷ pages) h =
    let e = length-append r (joined pages) in
    let k = halves-count pages h.1 in
    omega arith

-- room for one more means a free page
pub free-some : {X : Type 0} (pages : List (List X)) (free all len : ℕ) → IsHalfFull pages → len ≡ length (joined pages) → 1 ≤ spare_of free all len → all ≡ length pages + free → 1 ≤ free
free-some pages free all len h is s sum = let k = half-count pages h in omega arith

pub closed-last : {X : Type 0} (pages : List (List X)) (k : ℕ) → suc k ≡ length pages → length (get_or pages k []) ≡ 256 → IsClosed pages
closed-last [] k l h = tt
closed-last (r ∷ []) zero l h = h
closed-last (r ∷ []) (suc k) l h = absurd (omega arith)
closed-last (r ∷ s ∷ pages) zero l h = absurd (omega arith)
closed-last (r ∷ s ∷ pages) (suc k) l h = closed-last (s ∷ pages) k (omega arith) h

-- ---- a page is cut in two

pub cut-joined : {X : Type 0} (pages : List (List X)) (p : ℕ) → joined (cut_at pages p) ≡ joined pages
cut-joined [] p = refl
cut-joined (r ∷ pages) zero = sym (append_assoc (take 128 r) (drop 128 r) (joined pages)) ∙ ap (λ x. x ++ joined pages) (take-append-drop 128 r)
cut-joined (r ∷ pages) (suc p) = ap (λ x. r ++ x) (cut-joined pages p)

pub cut-length : {X : Type 0} (pages : List (List X)) (p : ℕ) → p < length pages → length (cut_at pages p) ≡ length pages + 1
cut-length [] p l = absurd (omega arith)
cut-length (r ∷ pages) zero l = omega arith
cut-length (r ∷ pages) (suc p) l = let h = cut-length pages p (omega arith) in omega arith

halves-cut : {X : Type 0} (pages : List (List X)) (p : ℕ) → AreHalfFull pages → p < length pages → length (get_or pages p []) ≡ 256 → AreHalfFull (cut_at pages p)
halves-cut [] p h l f = tt
halves-cut (r ∷ pages) zero h l f = half-cons (take 128 r) (drop 128 r ∷ pages) (simp length-take (omega arith)) (half-upper pages h)
  where
    upper : 128 ≤ length (drop 128 r)
    upper = simp length-drop (omega arith)

    half-upper : (rest : List (List _)) → AreHalfFull (r ∷ rest) → AreHalfFull (drop 128 r ∷ rest)
    half-upper [] q = let k : 1 ≤ length (drop 128 r) = omega (arith, upper) in k
    half-upper (s ∷ rest) q = (upper, q.1)
halves-cut (r ∷ []) (suc p) h l f = absurd (omega arith)
halves-cut (r ∷ s ∷ pages) (suc p) h l f = half-cons r (cut_at (s ∷ pages) p) h.0 (halves-cut (s ∷ pages) p h.1 (omega arith) f)

pub cut-half : {X : Type 0} (pages : List (List X)) (p : ℕ) → IsHalfFull pages → p < length pages → length (get_or pages p []) ≡ 256 → IsHalfFull (cut_at pages p)
cut-half [] p h l f = tt
cut-half (r ∷ pages) zero h l f = (simp length-take (omega arith), half-cons (drop 128 r) pages (simp length-drop (omega arith)) h.1)
cut-half (r ∷ pages) (suc p) h l f = (h.0, halves-cut pages p h.1 (omega arith) f)

pub cut-lower : {X : Type 0} (pages : List (List X)) (p : ℕ) → p < length pages → get_or (cut_at pages p) p [] ≡ take 128 (get_or pages p [])
cut-lower [] p l = absurd (omega arith)
cut-lower (r ∷ pages) zero l = refl
cut-lower (r ∷ pages) (suc p) l = cut-lower pages p (omega arith)

pub cut-upper : {X : Type 0} (pages : List (List X)) (p : ℕ) → p < length pages → get_or (cut_at pages p) (suc p) [] ≡ drop 128 (get_or pages p [])
cut-upper [] p l = absurd (omega arith)
cut-upper (r ∷ pages) zero l = refl
cut-upper (r ∷ pages) (suc p) l = cut-upper pages p (omega arith)

pub cut-before : {X : Type 0} (pages : List (List X)) (p : ℕ) → p < length pages → take p (cut_at pages p) ≡ take p pages
cut-before [] p l = absurd (omega arith)
cut-before (r ∷ pages) zero l = refl
cut-before (r ∷ pages) (suc p) l = ap (λ x. r ∷ x) (cut-before pages p (omega arith))

-- the place in the half that has it now
pub gap-lower : {X : Type 0} (pages : List (List X)) (i p j : ℕ) → IsSpot pages i p j → length (get_or pages p []) ≡ 256 → j ≤ 128 → IsGap (cut_at pages p) i p j
gap-lower pages i p j at f l =
    let w = at.within in
    let n : length (get_or (cut_at pages p) p []) ≡ 128 = rw (cut-lower pages p w) (simp length-take (omega arith)) in
    let c = cut-length pages p w in
    record {
      within = omega arith;
      inside = omega arith;
      has_room = omega arith;
      is = at.is ∙ ap (λ (x : List (List _)). length (joined x) + j) (sym (cut-before pages p w));
    }

pub gap-upper : {X : Type 0} (pages : List (List X)) (i p j : ℕ) → IsSpot pages i p j → length (get_or pages p []) ≡ 256 → 128 ≤ j → IsGap (cut_at pages p) i (p + 1) (j - 128)
gap-upper pages i p j at f l = rw add-one (
    let w = at.within in
    let n : length (get_or (cut_at pages p) (suc p) []) ≡ 128 = rw (cut-upper pages p w) (simp length-drop (omega arith)) in
    let m : length (get_or (cut_at pages p) p []) ≡ 128 = rw (cut-lower pages p w) (simp length-take (omega arith)) in
    let c = cut-length pages p w in
    let in_page = at.inside in
    let wc : p < length (cut_at pages p) = omega arith in
    let s = start-more (cut_at pages p) p wc in
    let b = ap (λ (x : List (List _)). length (joined x)) (cut-before pages p w) in
    let is = at.is in
    record {
      within = omega arith;
      inside = omega arith;
      has_room = omega arith;
      is = omega arith;
    })

-- ---- one more

pub joined-insert : {X : Type 0} (pages : List (List X)) (p j : ℕ) (x : X) → p < length pages → j ≤ length (get_or pages p []) → joined (set pages p (insert (get_or pages p []) j x)) ≡ insert (joined pages) (start_of pages p + j) x
joined-insert [] p j x l k = absurd (omega arith)
joined-insert (r ∷ pages) zero j x l k = sym (insert-append_left r (joined pages) j x k) ∙ ap (λ (n : ℕ). insert (r ++ joined pages) n x) (let e : j ≡ 0 + j = omega arith in e)
joined-insert (r ∷ pages) (suc p) j x l k =
    let e = length-append r (joined (take p pages)) in
    let at : start_of (r ∷ pages) (suc p) + j - length r ≡ start_of pages p + j = omega arith in
    ap (λ y. r ++ y) (joined-insert pages p j x (omega arith) k)
    ∙ ap (λ (n : ℕ). r ++ insert (joined pages) n x) (sym at)
    ∙ sym (insert-append_right r (joined pages) (length r) (start_of (r ∷ pages) (suc p) + j) x refl (omega arith))

pub gap-insert : {X : Type 0} (pages : List (List X)) (i p j : ℕ) (x : X) → IsGap pages i p j → joined (set pages p (insert (get_or pages p []) j x)) ≡ insert (joined pages) i x
gap-insert pages i p j x g = joined-insert pages p j x g.within g.inside ∙ ap (λ (n : ℕ). insert (joined pages) n x) (sym g.is)

pub gap-half : {X : Type 0} (pages : List (List X)) (i p j : ℕ) (x : X) → IsGap pages i p j → IsHalfFull pages → IsHalfFull (set pages p (insert (get_or pages p []) j x))
gap-half pages i p j x g h = let e = length-insert (get_or pages p []) j x g.inside in half-grow pages p (insert (get_or pages p []) j x) h (omega arith)

-- put behind all
pub insert-behind : {X : Type 0} (pages : List X) (n : ℕ) (r : X) → n ≡ length pages → insert pages n r ≡ pages ++ r ∷ []
insert-behind pages n r e = ap (λ (k : ℕ). insert pages k r) e ∙ insert_end pages r

pub joined-push : {X : Type 0} (pages : List (List X)) (r : List X) → joined (pages ++ r ∷ []) ≡ joined pages ++ r
joined-push [] r = append-nil r
joined-push (s ∷ pages) r = ap (λ x. s ++ x) (joined-push pages r) ∙ sym (append_assoc s (joined pages) r)

-- the place behind the last entry
pub end-gap : {X : Type 0} (pages : List (List X)) (p : ℕ) → p + 1 ≡ length pages → length (get_or pages p []) < 256 → IsGap pages (length (joined pages)) p (length (get_or pages p []))
end-gap pages p l f =
    let w : p < length pages = omega arith in
    let s = start-more pages p w in
    let e = ap length (joined-past pages (suc p) (omega arith)) in
    record { within = w; inside = omega arith; has_room = f; is = omega arith }

pub spot-gap : {X : Type 0} (pages : List (List X)) (i p j : ℕ) → IsSpot pages i p j → length (get_or pages p []) < 256 → IsGap pages i p j
spot-gap pages i p j s l = let a = s.inside in record { within = s.within; inside = omega arith; has_room = l; is = s.is }

pub kept-more : {X : Type 0} (old new : List (List X)) (i len free all : ℕ) (x : X) → len ≡ length (joined old) → i ≤ len → joined new ≡ insert (joined old) i x → IsHalfFull new → all ≤ 2199023255552 → 1 ≤ spare_of free all len → IsKept new (len + 1) all
kept-more old new i len free all x e l put h few spare = record {
  is_len = let m = ap length put ∙ length-insert (joined old) i x (omega arith) in omega arith;
  half = h;
  few = few;
  fits = omega arith;
}

-- ---- what stands up to a place, and from a place on

drop-past : {X : Type 0} (xs ys : List X) (n : ℕ) → drop (length xs + n) (xs ++ ys) ≡ drop n ys
drop-past xs ys n = sym (drop-drop n (length xs) (xs ++ ys)) ∙ ap (λ l. drop n l) (drop_at xs ys (length xs) refl)

take-past : {X : Type 0} (xs ys : List X) (n : ℕ) → take (length xs + n) (xs ++ ys) ≡ xs ++ take n ys
take-past [] ys n = ap (λ (m : ℕ). take m ys) (let e : 0 + n ≡ n = omega arith in e)
take-past (x ∷ xs) ys n = ap (λ (m : ℕ). take m (x ∷ xs ++ ys)) (let e : suc (length xs) + n ≡ suc (length xs + n) = omega arith in e) ∙ ap (λ l. x ∷ l) (take-past xs ys n)

pub past-page : {X : Type 0} (r : List X) (pages : List (List X)) (p j : ℕ) → start_of (r ∷ pages) (suc p) + j ≡ length r + (start_of pages p + j)
past-page r pages p j = let e = length-append r (joined (take p pages)) in omega arith

pub drop-joined : {X : Type 0} (pages : List (List X)) (p j : ℕ) → p < length pages → j ≤ length (get_or pages p []) → drop (start_of pages p + j) (joined pages) ≡ drop j (get_or pages p []) ++ joined (drop (suc p) pages)
drop-joined [] p j l k = absurd (omega arith)
drop-joined (r ∷ pages) zero j l k = ap (λ (n : ℕ). drop n (r ++ joined pages)) (let e : 0 + j ≡ j = omega arith in e) ∙ drop-append-le j r (joined pages) k
drop-joined (r ∷ pages) (suc p) j l k = ap (λ (n : ℕ). drop n (r ++ joined pages)) (past-page r pages p j) ∙ drop-past r (joined pages) (start_of pages p + j) ∙ drop-joined pages p j (omega arith) k

pub take-joined : {X : Type 0} (pages : List (List X)) (p j : ℕ) → p < length pages → j ≤ length (get_or pages p []) → take (start_of pages p + j) (joined pages) ≡ joined (take p pages) ++ take j (get_or pages p [])
take-joined [] p j l k = absurd (omega arith)
take-joined (r ∷ pages) zero j l k = ap (λ (n : ℕ). take n (r ++ joined pages)) (let e : 0 + j ≡ j = omega arith in e) ∙ take-append-le j r (joined pages) k
take-joined (r ∷ pages) (suc p) j l k =
    ap (λ (n : ℕ). take n (r ++ joined pages)) (past-page r pages p j)
    ∙ take-past r (joined pages) (start_of pages p + j)
    ∙ ap (λ l. r ++ l) (take-joined pages p j (omega arith) k)
    ∙ sym (append_assoc r (joined (take p pages)) (take j (get_or pages p [])))

pub take-start : {X : Type 0} (pages : List (List X)) (p : ℕ) → take (start_of pages p) (joined pages) ≡ joined (take p pages)
take-start [] zero = refl
take-start [] (suc p) = refl
take-start (r ∷ pages) zero = refl
take-start (r ∷ pages) (suc p) = ap (λ (n : ℕ). take n (r ++ joined pages)) (length-append r (joined (take p pages))) ∙ take-past r (joined pages) (start_of pages p) ∙ ap (λ l. r ++ l) (take-start pages p)

pub entry-joined : {X : Type 0} (pages : List (List X)) (p j : ℕ) (d : X) → p < length pages → j < length (get_or pages p []) → get_or (joined pages) (start_of pages p + j) d ≡ get_or (get_or pages p []) j d
entry-joined [] p j d l k = absurd (omega arith)
entry-joined (r ∷ pages) zero j d l k = ap (λ (n : ℕ). get_or (r ++ joined pages) n d) (let e : 0 + j ≡ j = omega arith in e) ∙ get_or_append_left r (joined pages) d j k
entry-joined (r ∷ pages) (suc p) j d l k =
    ap (λ (n : ℕ). get_or (r ++ joined pages) n d) (past-page r pages p j)
    ∙ get_or-append-add r (joined pages) (start_of pages p + j) d
    ∙ entry-joined pages p j d (omega arith) k

pub spot-stretch : {X : Type 0} (pages : List (List X)) (i p j : ℕ) (tail : List X) → IsSpot pages i p j → tail ≡ drop j (get_or pages p []) → tail ≡ take (length tail) (drop i (joined pages))
spot-stretch pages i p j tail s e =
    let q = drop-joined pages p j s.within (let k = s.inside in omega arith) in
    sym (ap (λ (n : ℕ). take (length tail) (drop n (joined pages))) s.is ∙ ap (λ l. take (length tail) l) (q ∙ ap (λ l. l ++ joined (drop (suc p) pages)) (sym e)) ∙ take_at tail (joined (drop (suc p) pages)) (length tail) refl)

-- ---- another in its place

pub joined-set : {X : Type 0} (pages : List (List X)) (p j : ℕ) (x : X) → p < length pages → j < length (get_or pages p []) → joined (set pages p (set (get_or pages p []) j x)) ≡ set (joined pages) (start_of pages p + j) x
joined-set [] p j x l k = absurd (omega arith)
joined-set (r ∷ pages) zero j x l k = sym (set-append_left r (joined pages) j x k) ∙ ap (λ (n : ℕ). set (r ++ joined pages) n x) (let e : j ≡ 0 + j = omega arith in e)
joined-set (r ∷ pages) (suc p) j x l k =
    let at = past-page r pages p j in
    let less : start_of (r ∷ pages) (suc p) + j - length r ≡ start_of pages p + j = omega arith in
    ap (λ y. r ++ y) (joined-set pages p j x (omega arith) k)
    ∙ ap (λ (n : ℕ). r ++ set (joined pages) n x) (sym less)
    ∙ sym (set-append_right r (joined pages) (length r) (start_of (r ∷ pages) (suc p) + j) x refl (omega arith))

pub spot-set : {X : Type 0} (pages : List (List X)) (i p j : ℕ) (x : X) (r y : List X) → IsSpot pages i p j → r ≡ get_or pages p r → y ≡ set r j x → (joined (set pages p y) ≡ set (joined pages) i x) × (IsHalfFull pages → IsHalfFull (set pages p y))
spot-set pages i p j x r y s e q =
    let at = get_or_read pages p r s.within e [] in
    let z : y ≡ set (get_or pages p []) j x = q ∙ ap (λ (l : List _). set l j x) at in
    let n = length-set (get_or pages p []) j x in
    (rw z (joined-set pages p j x s.within s.inside ∙ ap (λ (n : ℕ). set (joined pages) n x) (sym s.is)), λ h. rw z (half-grow pages p (set (get_or pages p []) j x) h (omega arith)))

-- ---- a place, or the end

pub end-is : {X : Type 0} (pages : List (List X)) (p j : ℕ) → IsSpotOrEnd pages p j → length pages ≤ p → start_of pages p + j ≡ length (joined pages)
end-is pages p j s l = let e = ap length (joined-past pages p l) in let z = s.end l in omega arith

pub end-le : {X : Type 0} (pages : List (List X)) (p j len : ℕ) → IsSpotOrEnd pages p j → len ≡ length (joined pages) → start_of pages p + j ≤ len
end-le pages p j len s e = go (cases_lt p (length pages))
  where
    go : (p < length pages) ⊎ (length pages ≤ p) → start_of pages p + j ≤ len
    go (inl l) = let a = start-more pages p l in let b = start-le pages (suc p) in let k = s.inside l in omega arith
    go (inr l) = let a = end-is pages p j s l in omega arith

pub closed-push : {X : Type 0} (pages : List (List X)) (y : List X) → length y ≡ 256 → IsClosed (pages ++ y ∷ [])
closed-push [] y l = l
closed-push (r ∷ []) y l = l
closed-push (r ∷ s ∷ pages) y l = closed-push (s ∷ pages) y l

-- before the end there is a page
pub spot-of : {X : Type 0} (pages : List (List X)) (i p j : ℕ) → IsSpotOrEnd pages p j → i ≡ start_of pages p + j → i < length (joined pages) → IsSpot pages i p j
spot-of pages i p j s e l = go (cases_lt p (length pages))
  where
    go : (p < length pages) ⊎ (length pages ≤ p) → IsSpot pages i p j
    go (inl w) = record { within = w; inside = s.inside w; is = e }
    go (inr w) = let a = end-is pages p j s w in absurd (omega arith)
