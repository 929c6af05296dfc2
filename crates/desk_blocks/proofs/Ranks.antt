-- Rising stamps.
use Rattle.std.proofs.Common.{◌≡◌, Bool, ℕ, zero, suc, ◌+◌, ◌-◌, ◌<◌, ◌≤◌, true, false, List, [], ◌∷◌, length, get_or, set, refl, sym, ap, ◌∙◌, subst, arith, ◌⊎◌, inl, inr}
use Rattle.std.specs.List.{insert}
use Rattle.std.proofs.lemmas.Bool.{cases_eq, cases_lt}
use Rattle.std.proofs.lemmas.List.Edits.{length-insert, get_or-insert_below, get_or-insert_at, get_or-insert_above}
use Rattle.desk_ops.specs.declared.op.Stamp.{Stamp}
use Rattle.desk_ops.specs.Stamp.{same, before, head}
use Rattle.desk_ops.proofs.Stamps.{before-trans, before-other, before-apart, before-apart_left, same-true}
use Rattle.desk_blocks.specs.Home.{Home}
use Rattle.desk_blocks.specs.Rank.{homes_of, IsRising, IsRank, IsNoneOf, Knows}
use Rattle.list_pages.specs.Pages.{IsEdge}
use Rattle.desk_ops.proofs.Stamps.{by_cases}
use Rattle.desk_seq.specs.declared.Entry.{Entry}
use Rattle.desk_seq.specs.Entries.{stamps_of, IsAbsent}
use Rattle.desk_seq.proofs.Entries.{absent-at, absent-from, length-stamps}

pub home-at : (hs : List Home) (k : ℕ) (d : Home) → k < length hs → get_or (homes_of hs) k head ≡ (get_or hs k d).stamp
home-at [] k d l = absurd (omega arith)
home-at (h ∷ hs) zero d l = refl
home-at (h ∷ hs) (suc k) d l = home-at hs k d (omega arith)

pub length-homes : (hs : List Home) → length (homes_of hs) ≡ length hs
length-homes [] = refl
length-homes (h ∷ hs) = ap suc (length-homes hs)

-- what stands at its rank is s, or s is none of them
pub none-by_rank : (ts : List Stamp) (s : Stamp) (i : ℕ) → IsRising ts → IsRank ts s i → (i < length ts → same (get_or ts i head) s ≡ false) → IsNoneOf s ts
none-by_rank ts s i up r other k l = go (cases_lt k i)
  where
    after : i < k → same (get_or ts k head) s ≡ false
    after h =
        let w : i < length ts = omega arith in
        before-apart s (get_or ts k head) (before-trans s (get_or ts i head) (get_or ts k head) (before-other (get_or ts i head) s (r.stops w) (other w)) (up i k h l))

    at_least : (k ≡ i) ⊎ (k ≡ i → ⊥) → i ≤ k → same (get_or ts k head) s ≡ false
    at_least (inl e) h = rw e (other (omega arith))
    at_least (inr n) h = after (omega arith)

    go : (k < i) ⊎ (i ≤ k) → same (get_or ts k head) s ≡ false
    go (inl h) = before-apart_left (get_or ts k head) s (r.below k h)
    go (inr h) = at_least (cases_eq k i) h

-- s at its rank keeps them rising
pub rising-insert : (ts : List Stamp) (s : Stamp) (i : ℕ) → IsRising ts → IsRank ts s i → IsNoneOf s ts → IsRising (insert ts i s)
rising-insert ts s i up r none a b ab bl = go (cases_lt b i) (cases_eq b i) (cases_lt a i) (cases_eq a i)
  where
    len : length (insert ts i s) ≡ length ts + 1
    len = length-insert ts i s r.within

    above : (k : ℕ) → i < k → get_or (insert ts i s) k head ≡ get_or ts (k - 1) head
    above k h = ap (λ (n : ℕ). get_or (insert ts i s) n head) (let e : k ≡ k - 1 + 1 = omega arith in e) ∙ get_or-insert_above ts i s head (k - 1) (omega arith) r.within

    -- s is before all from i on
    first : (k : ℕ) → i ≤ k → k < length ts → before s (get_or ts k head) ≡ true
    first k h l = pick (cases_eq i k)
      where
        here : i < length ts → before s (get_or ts i head) ≡ true
        here w = before-other (get_or ts i head) s (r.stops w) (none i w)

        pick : (i ≡ k) ⊎ (i ≡ k → ⊥) → before s (get_or ts k head) ≡ true
        pick (inl e) = rw (← e) (here (omega arith))
        pick (inr n) = before-trans s (get_or ts i head) (get_or ts k head) (here (omega arith)) (up i k (omega arith) l)

    go : (b < i) ⊎ (i ≤ b) → (b ≡ i) ⊎ (b ≡ i → ⊥) → (a < i) ⊎ (i ≤ a) → (a ≡ i) ⊎ (a ≡ i → ⊥) → before (get_or (insert ts i s) a head) (get_or (insert ts i s) b head) ≡ true
    go (inl h) be al ae = rw (get_or-insert_below ts i s head a (omega arith) r.within, get_or-insert_below ts i s head b h r.within) (up a b ab (let w = r.within in omega arith))
    go (inr h) (inl e) al ae = rw (e, get_or-insert_at ts i s head r.within, get_or-insert_below ts i s head a (omega arith) r.within) (r.below a (omega arith))
    go (inr h) (inr n) (inl al) ae = rw (get_or-insert_below ts i s head a al r.within, above b (omega arith)) (cross (cases_lt a (b - 1)))
      where
        cross : (a < b - 1) ⊎ (b - 1 ≤ a) → before (get_or ts a head) (get_or ts (b - 1) head) ≡ true
        cross (inl c) = up a (b - 1) c (omega (arith, len))
        cross (inr c) = absurd (omega arith)
    go (inr h) (inr n) (inr al) (inl e) = rw (e, get_or-insert_at ts i s head r.within, above b (omega arith)) (first (b - 1) (omega arith) (omega (arith, len)))
    go (inr h) (inr n) (inr al) (inr m) = rw (above a (omega arith), above b (omega arith)) (up (a - 1) (b - 1) (omega arith) (omega (arith, len)))

-- one more in both
pub none-insert : (ts us : List Stamp) (i j : ℕ) (t s : Stamp) → i ≤ length ts → j ≤ length us → (IsNoneOf s ts → IsNoneOf s us) → IsNoneOf s (insert ts i t) → IsNoneOf s (insert us j t)
none-insert ts us i j t s il jl from none k l = go (cases_lt k j) (cases_eq k j)
  where
    tlen : length (insert ts i t) ≡ length ts + 1
    tlen = length-insert ts i t il

    ulen : length (insert us j t) ≡ length us + 1
    ulen = length-insert us j t jl

    in_ts : IsNoneOf s ts
    in_ts m h = side (cases_lt m i)
      where
        side : (m < i) ⊎ (i ≤ m) → same (get_or ts m head) s ≡ false
        side (inl q) = rw (← get_or-insert_below ts i t head m q il) (none m (omega (arith, tlen)))
        side (inr q) = rw (← get_or-insert_above ts i t head m q il) (none (m + 1) (omega (arith, tlen)))

    here : same t s ≡ false
    here = rw (get_or-insert_at ts i t head il) at (none i (omega (arith, tlen)))

    go : (k < j) ⊎ (j ≤ k) → (k ≡ j) ⊎ (k ≡ j → ⊥) → same (get_or (insert us j t) k head) s ≡ false
    go (inl h) e = rw (get_or-insert_below us j t head k h jl) (from in_ts k (omega arith))
    go (inr h) (inl e) = rw (e, get_or-insert_at us j t head jl) here
    go (inr h) (inr n) = rw (ap (λ (n : ℕ). get_or (insert us j t) n head) (let e : k ≡ k - 1 + 1 = omega arith in e) ∙ get_or-insert_above us j t head (k - 1) (omega arith) jl) (from in_ts (k - 1) (omega (arith, ulen)))

pub knows-insert : (ts us : List Stamp) (i j : ℕ) (t : Stamp) → i ≤ length ts → j ≤ length us → Knows ts us → Knows (insert ts i t) (insert us j t)
knows-insert ts us i j t il jl k = record {
  all = λ s. none-insert ts us i j t s il jl (k.all s);
  only = λ s. none-insert us ts j i t s jl il (k.only s);
}

pub absent-none : (s : Stamp) (es : List Entry) → IsAbsent s es → IsNoneOf s (stamps_of es)
absent-none s es a = λ k l. absent-at s es k a (subst (λ (n : ℕ). k < n) (length-stamps es) l)

pub none-absent : (s : Stamp) (es : List Entry) → IsNoneOf s (stamps_of es) → IsAbsent s es
none-absent s es a = absent-from s es (λ k l. a k (subst (λ (n : ℕ). k < n) (sym (length-stamps es)) l))

-- the edge of those below s is the rank of s
pub edge-rank : (hs : List Home) (s : Stamp) (i : ℕ) → IsRising (homes_of hs) → IsEdge (λ (h : Home). before h.stamp s) hs i → IsRank (homes_of hs) s i
edge-rank hs s i up e = record { within = rw (length-homes hs) e.within; below = below; stops = stops }
  where
    none : Home
    none = record { stamp = s; page = 0 }

    at : (k : ℕ) → k < length hs → get_or (homes_of hs) k head ≡ (get_or hs k none).stamp
    at k l = home-at hs k none l

    last : (k : ℕ) → k + 1 ≡ i → before (get_or (homes_of hs) k head) s ≡ true
    last k q = ap (λ (t : Stamp). before t s) (at k (let w = e.within in omega arith)) ∙ ap (λ (n : ℕ). before (get_or hs n none).stamp s) (let r : k ≡ i - 1 = omega arith in r) ∙ e.below none (omega arith)

    below : (k : ℕ) → k < i → before (get_or (homes_of hs) k head) s ≡ true
    below k l = go (cases_eq (k + 1) i)
      where
        go : (k + 1 ≡ i) ⊎ (k + 1 ≡ i → ⊥) → before (get_or (homes_of hs) k head) s ≡ true
        go (inl q) = last k q
        go (inr n) = before-trans (get_or (homes_of hs) k head) (get_or (homes_of hs) (i - 1) head) s (up k (i - 1) (omega arith) (rw (length-homes hs) (let w = e.within in omega arith))) (last (i - 1) (omega arith))

    stops : i < length (homes_of hs) → before (get_or (homes_of hs) i head) s ≡ false
    stops l = let w : i < length hs = subst (λ (n : ℕ). i < n) (length-homes hs) l in ap (λ (t : Stamp). before t s) (at i w) ∙ e.stops none w

pub homes-set : (hs : List Home) (i : ℕ) (h : Home) → i < length hs → get_or (homes_of hs) i head ≡ h.stamp → homes_of (set hs i h) ≡ homes_of hs
homes-set [] i h l e = refl
homes-set (x ∷ hs) zero h l e = ap (λ (s : Stamp). s ∷ homes_of hs) (sym e)
homes-set (x ∷ hs) (suc i) h l e = ap (λ (l : List Stamp). x.stamp ∷ l) (homes-set hs i h (omega arith) e)

-- another home of the stamp that stands there, or none
pub homes-same : (hs new : List Home) (s : Stamp) (h : Home) (done : Bool) → h.stamp ≡ s → (done ≡ true → (i : ℕ) × (IsEdge (λ (x : Home). before x.stamp s) hs i) × (i < length hs) × (same (get_or hs i h).stamp s ≡ true) × (new ≡ set hs i h)) → (done ≡ false → (i : ℕ) × (IsEdge (λ (x : Home). before x.stamp s) hs i) × (i < length hs → same (get_or hs i h).stamp s ≡ false) × (new ≡ hs)) → homes_of new ≡ homes_of hs
homes-same hs new s h done q put none = by_cases done (λ e. written (put e)) (λ e. ap homes_of (none e).3)
  where
    written : (i : ℕ) × (IsEdge (λ (x : Home). before x.stamp s) hs i) × (i < length hs) × (same (get_or hs i h).stamp s ≡ true) × (new ≡ set hs i h) → homes_of new ≡ homes_of hs
    written p = ap homes_of p.4 ∙ homes-set hs p.0 h p.2 (home-at hs p.0 h p.2 ∙ same-true (get_or hs p.0 h).stamp s p.3 ∙ sym q)
