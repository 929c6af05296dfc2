-- What is shown of the entries of a sequence.
use Rattle.std.proofs.Common.{◌≡◌, ℕ, zero, suc, ◌+◌, ◌<◌, Bool, true, false, not, cond, List, [], ◌∷◌, map, length, get_or, take, refl, sym, ap, ◌∙◌, subst, arith}
use Rattle.std.specs.List.{filter}
use Rattle.std.proofs.lemmas.List.{length-map}
use Rattle.desk_ops.specs.declared.op.Stamp.{Stamp}
use Rattle.desk_ops.specs.Stamp.{head}
use Rattle.desk_ops.specs.Op.{Insertion}
use Rattle.desk_ops.specs.OpSet.{OpSet}
use Rattle.desk_ops.specs.Walk.{walk_of}
use Rattle.desk_ops.specs.Shown.{is_deleted_in, shown, shown_of, copy_of}
use Rattle.desk_ops.proofs.Stamps.{by_cases}
use Rattle.desk_ops.proofs.Tree.{filter-hit, filter-miss}
use Rattle.desk_seq.specs.declared.Entry.{Entry}
use Rattle.desk_seq.specs.Entries.{stamps_of, shown_in, is_shown, shown_symbols, IsShownAt}
use Rattle.desk_seq.proofs.Entries.{stamps-at}
use Rattle.desk_seq.proofs.Shows.{symbols}
use Rattle.desk_walk.specs.Following.{entry_of, entries_of}
use Rattle.desk_replica.specs.Edits.{stamp_at}

-- an element as an entry that is not deleted
abbrev plain : Insertion → Entry
plain x = record { stamp = x.stamp; symbol = x.symbol; deleted = false }

shown-entry : (x : Insertion) (es : List Entry) (xs : List Insertion) (b : Bool) → es ≡ map plain xs → cond (not b) (record { stamp = x.stamp; symbol = x.symbol; deleted = b } ∷ es) es ≡ map plain (cond (not b) (x ∷ xs) xs)
shown-entry x es xs true e = e
shown-entry x es xs false e = ap (λ l. plain x ∷ l) e

shown-entries : (h : OpSet) (xs : List Insertion) → filter is_shown (map (entry_of h) xs) ≡ map plain (filter (λ x. not (is_deleted_in h x.stamp)) xs)
shown-entries h [] = refl
shown-entries h (x ∷ xs) = shown-entry x (filter is_shown (map (entry_of h) xs)) (filter (λ x. not (is_deleted_in h x.stamp)) xs) (is_deleted_in h x.stamp) (shown-entries h xs)

shown-all : (h : OpSet) (es : List Entry) → es ≡ entries_of h → filter is_shown es ≡ map plain (shown_of h)
unfolding shown
shown-all h es e = ap (filter is_shown) e ∙ shown-entries h (walk_of h)

plain-symbols : (xs : List Insertion) → symbols (map plain xs) ≡ map (λ (x : Insertion). x.symbol) xs
plain-symbols [] = refl
plain-symbols (x ∷ xs) = ap (λ l. x.symbol ∷ l) (plain-symbols xs)

plain-stamps : (xs : List Insertion) → stamps_of (map plain xs) ≡ map (λ (x : Insertion). x.stamp) xs
plain-stamps [] = refl
plain-stamps (x ∷ xs) = ap (λ l. x.stamp ∷ l) (plain-stamps xs)

plain-length : (xs : List Insertion) → length (map plain xs) ≡ length xs
plain-length [] = refl
plain-length (x ∷ xs) = ap suc (plain-length xs)

pub copy-is : (h : OpSet) (es : List Entry) → es ≡ entries_of h → shown_symbols es ≡ copy_of h
copy-is h es e = ap symbols (shown-all h es e) ∙ plain-symbols (shown_of h)

-- ---- the i-th that is shown

count : (es : List Entry) → shown_in es ≡ length (filter is_shown es)
count [] = refl
count (e ∷ es) =
    elim e.deleted as (λ b. cond b (shown_in es) (shown_in es + 1) ≡ length (cond (not b) (e ∷ filter is_shown es) (filter is_shown es))) [
      | true ↦ count es
      | false ↦ let n : shown_in es ≡ length (filter is_shown es) = count es in omega arith
    ]

pub count-is : (h : OpSet) (es : List Entry) → es ≡ entries_of h → shown_in es ≡ length (shown_of h)
count-is h es e = count es ∙ ap length (shown-all h es e) ∙ plain-length (shown_of h)

pub copy-count : (h : OpSet) (es : List Entry) → es ≡ entries_of h → shown_in es ≡ length (copy_of h)
copy-count h es e = count es ∙ sym (length-map (filter is_shown es) (λ (x : Entry). x.symbol)) ∙ ap length (copy-is h es e)

abbrev IsReported : List Entry → ℕ → Stamp → Type 0
IsReported fs i s = (i < length fs) × (get_or (stamps_of fs) i head ≡ s)

reported : (es : List Entry) (i at : ℕ) → at < length es → ((d : Entry) → (get_or es at d).deleted ≡ false) → shown_in (take at es) ≡ i → IsReported (filter is_shown es) i (get_or (stamps_of es) at head)
reported [] i at lt live is = absurd (omega arith)
reported (e ∷ es) i zero lt live is =
    subst (λ (fs : List Entry). IsReported fs i e.stamp) (sym (filter-hit is_shown e es (ap not (live e))))
    (subst (λ (n : ℕ). IsReported (e ∷ filter is_shown es) n e.stamp) is (omega arith, refl))
reported (e ∷ es) i (suc n) lt live is =
    by_cases e.deleted
    (λ k. subst (λ (fs : List Entry). IsReported fs i (get_or (stamps_of es) n head)) (sym (filter-miss is_shown e es (ap not k)))
    (reported es i n (omega arith) live (sym (ap (λ b. cond b (shown_in (take n es)) (shown_in (take n es) + 1)) k) ∙ is)))
    (λ k. let e1 : shown_in (take n es) + 1 ≡ i = sym (ap (λ b. cond b (shown_in (take n es)) (shown_in (take n es) + 1)) k) ∙ is in
    let r = reported es (shown_in (take n es)) n (omega arith) live refl in
    subst (λ (fs : List Entry). IsReported fs i (get_or (stamps_of es) n head)) (sym (filter-hit is_shown e es (ap not k)))
    (subst (λ (m : ℕ). IsReported (e ∷ filter is_shown es) m (get_or (stamps_of es) n head)) (let f : suc (shown_in (take n es)) ≡ i = omega arith in f) (let l : shown_in (take n es) < length (filter is_shown es) = r.0 in omega arith, r.1)))

pub shown-stamp : (h : OpSet) (es : List Entry) → es ≡ entries_of h → (i at : ℕ) → IsShownAt es i at → (x : Entry) → x ≡ get_or es at x → (i < length (shown_of h)) × (x.stamp ≡ stamp_at (shown_of h) i)
shown-stamp h es e i at s x is =
    let r = reported es i at s.within s.shown s.before_it in
    let l : i < length (filter is_shown es) = r.0 in
    let n : length (filter is_shown es) ≡ length (shown_of h) = ap length (shown-all h es e) ∙ plain-length (shown_of h) in (
      omega arith,
      ap (λ (y : Entry). y.stamp) is ∙ sym (stamps-at es at x s.within) ∙ sym r.1 ∙ ap (λ (fs : List Entry). get_or (stamps_of fs) i head) (shown-all h es e) ∙ ap (λ ss. get_or ss i head) (plain-stamps (shown_of h)),
    )
