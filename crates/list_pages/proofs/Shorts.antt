-- A page that has become short.
use Rattle.std.proofs.Common.{◌≡◌, ℕ, zero, suc, ◌+◌, ◌-◌, ◌<◌, ◌≤◌, List, [], ◌∷◌, ◌++◌, length, get_or, take, drop, set, refl, sym, ap, ◌∙◌, arith, append_assoc, length-append, length-drop}
use Rattle.std.specs.List.{insert, remove}
use Rattle.std.proofs.lemmas.List.{take-append-drop, length-take-le, nil_from_length, append-nil}
use Rattle.std.proofs.lemmas.List.Edits.{remove-append_left, remove-append_right}
use Rattle.list_pages.specs.Pages.{joined, start_of, HasMore, AreHalfFull, AreShortAt, IsHalfFull, IsShortAt}
use Rattle.list_pages.proofs.Cuts.{half-cons, past-page, joined-push}
use Rattle.list_pages.proofs.Picks.{halves-some}

halves-rest : {X : Type 0} (r : List X) (pages : List (List X)) → AreHalfFull (r ∷ pages) → AreHalfFull pages
halves-rest r [] h = tt
halves-rest r (s ∷ pages) h = h.1

shorts-set : {X : Type 0} (pages : List (List X)) (p : ℕ) (y : List X) → AreHalfFull pages → p < length pages → length (get_or pages p []) ≤ length y + 1 → AreShortAt (set pages p y) p
shorts-set [] p y h l e = absurd (omega arith)
shorts-set (r ∷ []) zero y h l e = tt
shorts-set (r ∷ []) (suc p) y h l e = absurd (omega arith)
shorts-set (r ∷ s ∷ pages) zero y h l e = (let a : 128 ≤ length r = h.0 in omega arith, h.1)
shorts-set (r ∷ s ∷ []) (suc zero) y h l e = (h.0, tt)
shorts-set (r ∷ s ∷ []) (suc (suc p)) y h l e = absurd (omega arith)
shorts-set (r ∷ s ∷ t ∷ pages) (suc zero) y h l e = (h.0, shorts-set (s ∷ t ∷ pages) zero y h.1 (omega arith) e)
shorts-set (r ∷ s ∷ t ∷ pages) (suc (suc p)) y h l e = (h.0, shorts-set (s ∷ t ∷ pages) (suc p) y h.1 (omega arith) e)

pub short-set : {X : Type 0} (pages : List (List X)) (p : ℕ) (y : List X) → IsHalfFull pages → p < length pages → length (get_or pages p []) ≤ length y + 1 → IsShortAt (set pages p y) p
short-set [] p y h l e = absurd (omega arith)
short-set (r ∷ pages) zero y h l e = h.1
short-set (r ∷ pages) (suc p) y h l e = (h.0, shorts-set pages p y h.1 (omega arith) e)

-- long enough after all
shorts-half : {X : Type 0} (pages : List (List X)) (p : ℕ) → AreShortAt pages p → p < length pages → 128 ≤ length (get_or pages p []) → AreHalfFull pages
shorts-half [] p h l e = tt
shorts-half (r ∷ []) zero h l e = let k : 1 ≤ length r = omega arith in k
shorts-half (r ∷ []) (suc p) h l e = h
shorts-half (r ∷ s ∷ pages) zero h l e = (e, h.1)
shorts-half (r ∷ s ∷ pages) (suc p) h l e = (h.0, shorts-half (s ∷ pages) p h.1 (omega arith) e)

pub short-half : {X : Type 0} (pages : List (List X)) (p : ℕ) → IsShortAt pages p → p < length pages → 128 ≤ length (get_or pages p []) → IsHalfFull pages
short-half [] p h l e = tt
short-half (r ∷ pages) zero h l e = (omega arith, h)
short-half (r ∷ pages) (suc p) h l e = (h.0, shorts-half pages p h.1 (omega arith) e)

-- the last, with one at least
shorts-last : {X : Type 0} (pages : List (List X)) (p : ℕ) → AreShortAt pages p → p + 1 ≡ length pages → 1 ≤ length (get_or pages p []) → AreHalfFull pages
shorts-last [] p h l e = tt
shorts-last (r ∷ []) zero h l e = e
shorts-last (r ∷ []) (suc p) h l e = h
shorts-last (r ∷ s ∷ pages) zero h l e = absurd (omega arith)
shorts-last (r ∷ s ∷ pages) (suc p) h l e = (h.0, shorts-last (s ∷ pages) p h.1 (omega arith) e)

pub short-last : {X : Type 0} (pages : List (List X)) (p : ℕ) → IsShortAt pages p → p + 1 ≡ length pages → 1 ≤ length (get_or pages p []) → IsHalfFull pages
short-last [] p h l e = tt
short-last (r ∷ pages) zero h l e = (e, h)
short-last (r ∷ pages) (suc p) h l e = (h.0, shorts-last pages p h.1 (omega arith) e)

-- without the last, which is empty
shorts-prefix : {X : Type 0} (pages : List (List X)) (y : List X) (p : ℕ) → AreShortAt (pages ++ y ∷ []) p → p ≡ length pages → AreHalfFull pages
shorts-prefix [] y p h e = tt
shorts-prefix (r ∷ []) y zero h e = absurd (omega arith)
shorts-prefix (r ∷ []) y (suc p) h e = let a : 128 ≤ length r = h.0 in let k : 1 ≤ length r = omega arith in k
shorts-prefix (r ∷ s ∷ pages) y zero h e = absurd (omega arith)
shorts-prefix (r ∷ s ∷ pages) y (suc p) h e = half-cons r (s ∷ pages) h.0 (shorts-prefix (s ∷ pages) y p h.1 (omega arith))

pub short-prefix : {X : Type 0} (pages : List (List X)) (y : List X) (p : ℕ) → IsShortAt (pages ++ y ∷ []) p → p ≡ length pages → IsHalfFull pages
short-prefix [] y p h e = tt
short-prefix (r ∷ pages) y zero h e = absurd (omega arith)
short-prefix (r ∷ pages) y (suc p) h e = (h.0, shorts-prefix pages y p h.1 (omega arith))

-- joined with the next
pub merge-joined : {X : Type 0} (pages : List (List X)) (p : ℕ) → suc p < length pages → joined (set (remove pages (suc p)) p (get_or pages p [] ++ get_or pages (suc p) [])) ≡ joined pages
merge-joined [] p l = absurd (omega arith)
merge-joined (r ∷ []) p l = absurd (omega arith)
merge-joined (r ∷ s ∷ pages) zero l = append_assoc r s (joined pages)
merge-joined (r ∷ s ∷ pages) (suc p) l = ap (λ x. r ++ x) (merge-joined (s ∷ pages) p (omega arith))

merges-half : {X : Type 0} (pages : List (List X)) (p : ℕ) → AreShortAt pages p → suc p < length pages → AreHalfFull (set (remove pages (suc p)) p (get_or pages p [] ++ get_or pages (suc p) []))
merges-half [] p h l = absurd (omega arith)
merges-half (r ∷ []) p h l = absurd (omega arith)
merges-half (r ∷ s ∷ []) zero h l = let e = length-append r s in let a : 127 ≤ length r = h.0 in let k : 1 ≤ length (r ++ s) = omega arith in k
merges-half (r ∷ s ∷ t ∷ pages) zero h l = (let e = length-append r s in let a : 127 ≤ length r = h.0 in let b : 128 ≤ length s = h.1.0 in omega arith, h.1.1)
merges-half (r ∷ s ∷ pages) (suc p) h l = half-cons r (set (remove (s ∷ pages) (suc p)) p (get_or (s ∷ pages) p [] ++ get_or (s ∷ pages) (suc p) [])) h.0 (merges-half (s ∷ pages) p h.1 (omega arith))

pub merge-half : {X : Type 0} (pages : List (List X)) (p : ℕ) → IsShortAt pages p → suc p < length pages → IsHalfFull (set (remove pages (suc p)) p (get_or pages p [] ++ get_or pages (suc p) []))
merge-half [] p h l = absurd (omega arith)
merge-half (r ∷ []) p h l = absurd (omega arith)
merge-half (r ∷ s ∷ pages) zero h l = let e = length-append r s in let a = halves-some (s ∷ pages) zero h (omega arith) in (omega arith, halves-rest s pages h)
merge-half (r ∷ s ∷ pages) (suc p) h l = (h.0, merges-half (s ∷ pages) p h.1 (omega arith))

-- the first of the next moved over
pub share-joined : {X : Type 0} (pages : List (List X)) (p n : ℕ) → suc p < length pages → joined (insert (set (remove pages (suc p)) p (get_or pages p [] ++ take n (get_or pages (suc p) []))) (suc p) (drop n (get_or pages (suc p) []))) ≡ joined pages
share-joined [] p n l = absurd (omega arith)
share-joined (r ∷ []) p n l = absurd (omega arith)
share-joined (r ∷ s ∷ pages) zero n l =
    append_assoc r (take n s) (drop n s ++ joined pages)
    ∙ ap (λ z. r ++ z) (sym (append_assoc (take n s) (drop n s) (joined pages)) ∙ ap (λ z. z ++ joined pages) (take-append-drop n s))
share-joined (r ∷ s ∷ pages) (suc p) n l = ap (λ z. r ++ z) (share-joined (s ∷ pages) p n (omega arith))

shares-half : {X : Type 0} (pages : List (List X)) (p n : ℕ) → AreShortAt pages p → suc p < length pages → 1 ≤ n → n + 128 ≤ length (get_or pages (suc p) []) → AreHalfFull (insert (set (remove pages (suc p)) p (get_or pages p [] ++ take n (get_or pages (suc p) []))) (suc p) (drop n (get_or pages (suc p) [])))
shares-half [] p n h l m f = absurd (omega arith)
shares-half (r ∷ []) p n h l m f = absurd (omega arith)
shares-half (r ∷ s ∷ []) zero n h l m f =
    let a : 127 ≤ length r = h.0 in
    let b = length-append r (take n s) in
    let c = length-take-le n s (omega arith) in
    let d = length-drop n s in
    (omega arith, let k : 1 ≤ length (drop n s) = omega arith in k)
shares-half (r ∷ s ∷ t ∷ pages) zero n h l m f =
    let a : 127 ≤ length r = h.0 in
    let b = length-append r (take n s) in
    let c = length-take-le n s (omega arith) in
    let d = length-drop n s in
    (omega arith, (omega arith, h.1.1))
shares-half (r ∷ s ∷ pages) (suc p) n h l m f = half-cons r (insert (set (remove (s ∷ pages) (suc p)) p (get_or (s ∷ pages) p [] ++ take n (get_or (s ∷ pages) (suc p) []))) (suc p) (drop n (get_or (s ∷ pages) (suc p) []))) h.0 (shares-half (s ∷ pages) p n h.1 (omega arith) m f)

pub share-half : {X : Type 0} (pages : List (List X)) (p n : ℕ) → IsShortAt pages p → suc p < length pages → 1 ≤ n → n + 128 ≤ length (get_or pages (suc p) []) → IsHalfFull (insert (set (remove pages (suc p)) p (get_or pages p [] ++ take n (get_or pages (suc p) []))) (suc p) (drop n (get_or pages (suc p) [])))
share-half [] p n h l m f = absurd (omega arith)
share-half (r ∷ []) p n h l m f = absurd (omega arith)
share-half (r ∷ s ∷ pages) zero n h l m f =
    let b = length-append r (take n s) in
    let c = length-take-le n s (omega arith) in
    let d = length-drop n s in
    (omega arith, half-cons (drop n s) pages (omega arith) (halves-rest s pages h))
share-half (r ∷ s ∷ pages) (suc p) n h l m f = (h.0, shares-half (s ∷ pages) p n h.1 (omega arith) m f)

-- a page that has more may lose one
mores-half : {X : Type 0} (pages : List (List X)) (p : ℕ) (y : List X) → AreHalfFull pages → p < length pages → 2 ≤ length (get_or pages p []) → (suc p < length pages → 129 ≤ length (get_or pages p [])) → length y + 1 ≡ length (get_or pages p []) → AreHalfFull (set pages p y)
mores-half [] p y h l some more e = tt
mores-half (r ∷ []) zero y h l some more e = let k : 1 ≤ length y = omega arith in k
mores-half (r ∷ []) (suc p) y h l some more e = absurd (omega arith)
mores-half (r ∷ s ∷ pages) zero y h l some more e = (let a = more (omega arith) in omega arith, h.1)
mores-half (r ∷ s ∷ pages) (suc p) y h l some more e = half-cons r (set (s ∷ pages) p y) h.0 (mores-half (s ∷ pages) p y h.1 (omega arith) some (λ w. more (omega arith)) e)

pub more-half : {X : Type 0} (pages : List (List X)) (p : ℕ) (y : List X) → IsHalfFull pages → p < length pages → HasMore pages p → length y + 1 ≡ length (get_or pages p []) → IsHalfFull (set pages p y)
more-half [] p y h l m e = tt
more-half (r ∷ pages) zero y h l m e = (let a = m.some in omega arith, h.1)
more-half (r ∷ pages) (suc p) y h l m e = (h.0, mores-half pages p y h.1 (omega arith) m.some (λ w. m.more (omega arith) (omega arith)) e)

-- one out of a page
pub joined-remove : {X : Type 0} (pages : List (List X)) (p j : ℕ) → p < length pages → j < length (get_or pages p []) → joined (set pages p (remove (get_or pages p []) j)) ≡ remove (joined pages) (start_of pages p + j)
joined-remove [] p j l k = absurd (omega arith)
joined-remove (r ∷ pages) zero j l k = sym (remove-append_left r (joined pages) j k) ∙ ap (λ (n : ℕ). remove (r ++ joined pages) n) (let e : j ≡ 0 + j = omega arith in e)
joined-remove (r ∷ pages) (suc p) j l k =
    let at = past-page r pages p j in
    let less : start_of (r ∷ pages) (suc p) + j - length r ≡ start_of pages p + j = omega arith in
    ap (λ y. r ++ y) (joined-remove pages p j (omega arith) k)
    ∙ ap (λ (n : ℕ). r ++ remove (joined pages) n) (sym less)
    ∙ sym (remove-append_right r (joined pages) (length r) (start_of (r ∷ pages) (suc p) + j) refl (omega arith))

-- ---- a page is closed, joined with the next, or shares its entries

pub last-off : {X : Type 0} (pages : List (List X)) (p : ℕ) → p + 1 ≡ length pages → pages ≡ remove pages p ++ get_or pages p [] ∷ []
last-off [] p e = absurd (omega arith)
last-off (r ∷ []) zero e = refl
last-off (r ∷ []) (suc p) e = absurd (omega arith)
last-off (r ∷ s ∷ pages) zero e = absurd (omega arith)
last-off (r ∷ s ∷ pages) (suc p) e = ap (λ (z : List (List _)). r ∷ z) (last-off (s ∷ pages) p (omega arith))

pub last-empty : {X : Type 0} (pages : List (List X)) (p : ℕ) → p + 1 ≡ length pages → length (get_or pages p []) ≡ 0 → joined (remove pages p) ≡ joined pages
last-empty pages p e z =
    let n = nil_from_length (get_or pages p []) z in
    sym (ap joined (last-off pages p e) ∙ joined-push (remove pages p) (get_or pages p []) ∙ ap (λ (l : List _). joined (remove pages p) ++ l) n ∙ append-nil (joined (remove pages p)))

pub join-is : {X : Type 0} (pages : List (List X)) (p : ℕ) (a : List X) → suc p < length pages → remove (set pages p a) (suc p) ≡ set (remove pages (suc p)) p a
join-is [] p a l = absurd (omega arith)
join-is (r ∷ []) p a l = absurd (omega arith)
join-is (r ∷ s ∷ pages) zero a l = refl
join-is (r ∷ s ∷ pages) (suc p) a l = ap (λ (z : List (List _)). r ∷ z) (join-is (s ∷ pages) p a (omega arith))

pub share-is : {X : Type 0} (pages : List (List X)) (p : ℕ) (a b : List X) → suc p < length pages → set (set pages p a) (suc p) b ≡ insert (set (remove pages (suc p)) p a) (suc p) b
share-is [] p a b l = absurd (omega arith)
share-is (r ∷ []) p a b l = absurd (omega arith)
share-is (r ∷ s ∷ pages) zero a b l = refl
share-is (r ∷ s ∷ pages) (suc p) a b l = ap (λ (z : List (List _)). r ∷ z) (share-is (s ∷ pages) p a b (omega arith))
