-- What the searches say of a sequence.
use Rattle.std.proofs.Common.{◌≡◌, Bool, true, false, not, cond, ℕ, zero, suc, ◌+◌, ◌-◌, ◌<◌, ◌≤◌, List, [], ◌∷◌, length, get_or, take, drop, refl, sym, ap, ◌∙◌, subst, arith, min, length-take, length-drop}
use Rattle.std.specs.List.{count_by}
use Rattle.std.proofs.lemmas.List.{take_all, take-take, get_or-take, get_or-drop}
use Rattle.std.proofs.lemmas.List.Sums.{sum_by-cons, sum_by-take-le, count_by_more_yes}
use Rattle.std.proofs.lemmas.List.Recursion.{is_count_by}
use Rattle.std.proofs.lemmas.Bool.{not-true}
use Rattle.desk_ops.specs.declared.op.Stamp.{Stamp}
use Rattle.desk_ops.specs.declared.op.Style.TheVariants.{Roman}
use Rattle.desk_ops.specs.Stamp.{before, same, head}
use Rattle.desk_ops.proofs.Stamps.{by_cases, same-true, same-symm}
use Rattle.desk_seq.specs.declared.Entry.{Entry}
use Rattle.desk_seq.specs.Entries.{stamps_of, IsAbsent, AreDistinct, IsFoundAt, IsFirstBelow, shown_in, IsShownAt, is_shown}
use Rattle.desk_seq.proofs.Entries.{length-stamps, stamps-at, absent-at}
use Rattle.list_pages.specs.Pages.{IsNth, IsShort}
use Rattle.desk_blocks.specs.Tally.{is_smaller, is_of, IsAt}

none : Entry
none = record { stamp = head; symbol = record { style = Roman; ch = 0 }; deleted = false }

-- the count never falls
count-rises : {X : Type 0} (p : X → Bool) (xs : List X) (m n : ℕ) → m ≤ n → count_by p (take m xs) ≤ count_by p (take n xs)
count-rises p xs m n l = subst (λ (ys : List _). count_by p ys ≤ count_by p (take n xs)) (take-take m n xs l) (sum_by-take-le (λ x. cond (p x) 1 0) (take n xs) m)

-- between two places with one count none is picked
skipped : {X : Type 0} (p : X → Bool) (xs : List X) (a b k : ℕ) (d : X) → count_by p (take b xs) ≡ count_by p (take a xs) → a ≤ k → k < b → b ≤ length xs → p (get_or xs k d) ≡ false
skipped p xs a b k d e l m w = by_cases (p (get_or xs k d)) (λ q. absurd (omega (arith, count_by_more_yes p xs k d (omega arith) q, count-rises p xs (k + 1) b (omega arith), count-rises p xs a k l))) (λ q. q)

pub nth-below : (es : List Entry) (s : Stamp) (from place : ℕ) → IsNth (is_smaller s) es from 0 place → IsFirstBelow (stamps_of es) from s place
nth-below es s from place h =
    let n = length-stamps es in
    let w = h.within in
    let c = h.count in
    record {
      after = h.after;
      within = omega arith;
      skipped = λ k l m. ap (λ (t : Stamp). before t s) (stamps-at es k none (omega arith)) ∙ skipped (is_smaller s) es from place k none (omega arith) l m (omega arith);
      stops = λ _. ap (λ (t : Stamp). before t s) (stamps-at es place none w) ∙ h.picked none;
    }

pub short-below : (es : List Entry) (s : Stamp) (from left : ℕ) → from ≤ length es → IsShort (is_smaller s) es from 0 left → IsFirstBelow (stamps_of es) from s (length es)
short-below es s from left l h =
    let n = length-stamps es in
    let a = ap (count_by (is_smaller s)) (take_all (length es) es (omega arith)) in
    let b = h.0 in
    let c = h.1 in
    record {
      after = l;
      within = omega arith;
      skipped = λ k l m. ap (λ (t : Stamp). before t s) (stamps-at es k none m) ∙ skipped (is_smaller s) es from (length es) k none (omega arith) l m (omega arith);
      stops = λ w. absurd (omega arith);
    }

shown-step : (b : Bool) (n : ℕ) → cond b n (n + 1) ≡ cond (not b) (1 + n) n
shown-step true n = refl
shown-step false n = omega arith

pub shown-count : (es : List Entry) → shown_in es ≡ count_by is_shown es
shown-count es = is_count_by shown_in is_shown refl (λ x xs. shown-step x.deleted (shown_in xs)) es

pub nth-shown : (es : List Entry) (i place : ℕ) → IsNth is_shown es 0 i place → IsShownAt es i place
nth-shown es i place h = record { within = h.within; shown = λ d. not-true (get_or es place d).deleted (h.picked d); before_it = let c = h.count in shown-count (take place es) ∙ (let e : count_by is_shown (take place es) ≡ i = omega arith in e) }

pub short-shown : (es : List Entry) (i left : ℕ) → IsShort is_shown es 0 i left → shown_in es ≤ i
short-shown es i left h = let c = shown-count es in let a = h.1 in omega arith

count-step : (b : Bool) (n m : ℕ) → m ≡ cond b 1 0 + n → m ≡ 0 → (b ≡ false) × (n ≡ 0)
count-step true n m e z = absurd (omega arith)
count-step false n m e z = (refl, omega arith)

-- none is picked
pub count-none : (s : Stamp) (es : List Entry) → count_by (is_of s) es ≡ 0 → IsAbsent s es
count-none s [] h = tt
count-none s (x ∷ es) h =
    let c = count-step (is_of s x) (count_by (is_of s) es) (count_by (is_of s) (x ∷ es)) (sum_by-cons (λ (y : Entry). cond (is_of s y) 1 0) x es) h in
    (c.0, count-none s es c.1)

-- where no two have one stamp, any place of it is the first
pub found-distinct : (es : List Entry) (s : Stamp) (i : ℕ) → AreDistinct es → IsAt es s i → IsFoundAt (stamps_of es) s i
found-distinct es s i d at = record { within = rw (length-stamps es) at.within; is = is; first = λ j l. first es i j d at.within l is }
  where
    is : get_or (stamps_of es) i head ≡ s
    is = stamps-at es i none at.within ∙ same-true (get_or es i none).stamp s (at.is none)

    first : (xs : List Entry) (n j : ℕ) → AreDistinct xs → n < length xs → j < n → get_or (stamps_of xs) n head ≡ s → same (get_or (stamps_of xs) j head) s ≡ false
    first [] n j d l h q = absurd (omega arith)
    first (x ∷ xs) zero j d l h q = absurd (omega arith)
    first (x ∷ xs) (suc n) zero d l h q = rw (same-symm x.stamp s) (subst (λ (t : Stamp). same t x.stamp ≡ false) q (absent-at x.stamp xs n d.0 (omega arith)))
    first (x ∷ xs) (suc n) (suc j) d l h q = first xs n j d.1 (omega arith) (omega arith) q

-- found in a stretch from start on
pub at-part : (es part : List Entry) (s : Stamp) (start j : ℕ) → part ≡ take (length part) (drop start es) → IsAt part s j → IsAt es s (start + j)
at-part es part s start j e at =
    let n : length part ≡ min (length part) (length es - start) = ap length e ∙ simp (length-take, length-drop) in
    let w = at.within in
    record {
      within = omega arith;
      is = λ d. ap (λ (x : Entry). same x.stamp s) (sym (ap (λ (l : List Entry). get_or l j d) e ∙ get_or-take (length part) (drop start es) j d w ∙ get_or-drop start es j d)) ∙ at.is d;
    }

pub nth-at : (es : List Entry) (s : Stamp) (place : ℕ) → IsNth (is_of s) es 0 0 place → IsAt es s place
nth-at es s place h = record { within = h.within; is = h.picked }
