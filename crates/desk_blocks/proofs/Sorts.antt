-- Homes in the order of their stamps.
use Rattle.std.proofs.Common.{◌≡◌, ℕ, zero, suc, ◌<◌, false, List, [], ◌∷◌, length, get_or, ap, ◌∙◌, subst, arith}
use Rattle.std.specs.List.{IsDistinct}
use Rattle.std.specs.List.Sorted.{IsPermutation, IsSortedByKey}
use Rattle.std.specs.Ordering.{is_lt, nat_cmp, ordering_then}
use Rattle.std.proofs.lemmas.List.{get_or_default}
use Rattle.std.proofs.lemmas.List.Elements.{All-get_or, All-from_get_or}
use Rattle.std.proofs.lemmas.List.Sorted.{All-permutation, IsPermutation-map, IsPermutation-sym, ranks_by, sorted_far}
use Rattle.std.proofs.lemmas.Map.Keys.{IsDistinct-IsPermutation, IsDistinct-from_apart, apart_from_distinct}
use Rattle.desk_ops.specs.declared.op.Stamp.{Stamp}
use Rattle.desk_ops.specs.Stamp.{same, before, head, stamp_cmp}
use Rattle.desk_ops.proofs.Stamps.{before-other, same-symm, stamp_total}
use Rattle.desk_seq.specs.declared.Entry.{Entry}
use Rattle.desk_seq.specs.Entries.{stamps_of, AreDistinct}
use Rattle.desk_seq.proofs.Entries.{absent-at, length-stamps}
use Rattle.desk_blocks.specs.Home.{Home}
use Rattle.desk_blocks.specs.Rank.{homes_of, IsRising, IsNoneOf, Knows}
use Rattle.desk_blocks.proofs.Ranks.{home-at, length-homes}

-- a stamp that is none of them is none of them in another order
none-moved : (s : Stamp) (ts us : List Stamp) → IsPermutation ts us → IsNoneOf s ts → IsNoneOf s us
none-moved s ts us p n k l = All-get_or (λ (t : Stamp). same t s ≡ false) us k head l (All-permutation (λ (t : Stamp). same t s ≡ false) ts us p (All-from_get_or (λ (t : Stamp). same t s ≡ false) ts head n))

pub knows-moved : (hs gs : List Home) (es : List Entry) → homes_of hs ≡ stamps_of es → IsPermutation hs gs → Knows (homes_of gs) (stamps_of es)
knows-moved hs gs es e p =
    let q : IsPermutation (stamps_of es) (homes_of gs) = subst (λ (ts : List Stamp). IsPermutation ts (homes_of gs)) e (IsPermutation-map (λ (h : Home). h.stamp) hs gs p) in
    record {
      all = λ s. none-moved s (homes_of gs) (stamps_of es) (IsPermutation-sym (stamps_of es) (homes_of gs) q);
      only = λ s. none-moved s (stamps_of es) (homes_of gs) q;
    }

-- two of distinct entries have two stamps
apart : (es : List Entry) (i j : ℕ) → AreDistinct es → i < j → j < length es → same (get_or (stamps_of es) i head) (get_or (stamps_of es) j head) ≡ false
apart [] i j d l w = absurd (omega arith)
apart (e ∷ es) i zero d l w = absurd (omega arith)
apart (e ∷ es) zero (suc j) d l w = same-symm e.stamp (get_or (stamps_of es) j head) ∙ absent-at e.stamp es j d.0 (omega arith)
apart (e ∷ es) (suc i) (suc j) d l w = apart es i j d.1 (omega arith) (omega arith)

distinct-stamps : (es : List Entry) → AreDistinct es → IsDistinct same (stamps_of es)
distinct-stamps es d = IsDistinct-from_apart same (stamps_of es) (λ i j x l w.
    let n = length-stamps es in
    ap (λ (t : Stamp). same t (get_or (stamps_of es) j x)) (get_or_default (stamps_of es) i x head (omega arith))
    ∙ ap (λ (t : Stamp). same (get_or (stamps_of es) i head) t) (get_or_default (stamps_of es) j x head w)
    ∙ apart es i j d l (omega arith))

before-from : (a b : Stamp) → is_lt (stamp_cmp a b) ≡ false → before a b ≡ false
unfolding before
before-from a b e = e

-- as a sort by stamp says it
pub sorted-from : (gs : List Home) → IsSortedByKey (λ (h : Home). h.stamp) (λ a b. ordering_then (nat_cmp a.counter b.counter) (nat_cmp a.site b.site)) gs → IsSortedByKey (λ (h : Home). h.stamp) stamp_cmp gs
unfolding stamp_cmp
sorted-from gs up = up

-- sorted, they rise
pub rising-sorted : (hs gs : List Home) (es : List Entry) → AreDistinct es → homes_of hs ≡ stamps_of es → IsPermutation hs gs → IsSortedByKey (λ (h : Home). h.stamp) stamp_cmp gs → IsRising (homes_of gs)
rising-sorted hs gs es d e p up a b l w =
    let n = length-homes gs in
    let q : IsPermutation (stamps_of es) (homes_of gs) = subst (λ (ts : List Stamp). IsPermutation ts (homes_of gs)) e (IsPermutation-map (λ (h : Home). h.stamp) hs gs p) in
    let two : IsDistinct same (homes_of gs) = IsDistinct-IsPermutation same same-symm (stamps_of es) (homes_of gs) q (distinct-stamps es d) in
    let none : Home = record { stamp = head; page = 0 } in
    let far : before (get_or gs b none).stamp (get_or gs a none).stamp ≡ false = before-from (get_or gs b none).stamp (get_or gs a none).stamp (sorted_far (λ (x y : Home). is_lt (stamp_cmp x.stamp y.stamp)) (ranks_by stamp_total (λ (h : Home). h.stamp)) gs up a b none (omega arith) (omega arith)) in
    let x = home-at gs a none (omega arith) in
    let y = home-at gs b none (omega arith) in
    let other : same (get_or (homes_of gs) b head) (get_or (homes_of gs) a head) ≡ false = same-symm (get_or (homes_of gs) b head) (get_or (homes_of gs) a head) ∙ apart_from_distinct same (homes_of gs) a b head two l w in
    before-other (get_or (homes_of gs) b head) (get_or (homes_of gs) a head) (rw (x, y) far) other
