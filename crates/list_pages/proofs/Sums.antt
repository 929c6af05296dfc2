-- A summary of each group of pages.
use Rattle.std.proofs.Common.{◌≡◌, ◌≢◌, ℕ, zero, suc, ◌+◌, ◌-◌, ◌*◌, ◌/◌, ◌^◌, ◌<◌, ◌≤◌, List, [], ◌∷◌, ◌++◌, length, get_or, take, drop, set, refl, sym, ap, ◌∙◌, subst, arith, append_assoc, add-one, Bool, length-append, length-drop, ◌⊎◌, inl, inr}
use Rattle.std.specs.List.{count_by, insert}
use Rattle.std.proofs.Math.Seq.{take-add, take-set-lt}
use Rattle.std.proofs.lemmas.Bool.{cases_lt}
use Rattle.std.proofs.lemmas.List.{drop-set-lt, drop-set-add, take-set-le, get_or-take, get_or-drop, length-set, length-take-le, get_or_read}
use Rattle.list_pages.specs.Pages.{joined, start_of, group_at, IsSums}
use Rattle.list_pages.proofs.Cuts.{start-le, joined-insert, joined-set, entry-joined}
use Rattle.list_pages.proofs.Picks.{page-fits, page-within, joined-more, count-append}

pub joined-append : {X : Type 0} (xs ys : List (List X)) → joined (xs ++ ys) ≡ joined xs ++ joined ys
joined-append [] ys = refl
joined-append (x ∷ xs) ys = ap (λ z. x ++ z) (joined-append xs ys) ∙ sym (append_assoc x (joined xs) (joined ys))

-- the pages up to the end of a group
pub group-next : {X : Type 0} (pages : List (List X)) (g : ℕ) → joined (take (32 * g + 32) pages) ≡ joined (take (32 * g) pages) ++ joined (group_at pages g)
group-next pages g = ap joined (take-add (32 * g) 32 pages) ∙ joined-append (take (32 * g) pages) (group_at pages g)

drop-fits : {X : Type 0} (pages : List (List X)) (n : ℕ) → length (joined (drop n pages)) ≤ length (joined pages)
drop-fits pages zero = omega arith
drop-fits [] (suc n) = omega arith
drop-fits (r ∷ pages) (suc n) = let h = drop-fits pages n in let e = length-append r (joined pages) in omega arith

pub group-fits : {X : Type 0} (pages : List (List X)) (g : ℕ) → length (joined (group_at pages g)) ≤ length (joined pages)
group-fits pages g = let a = start-le (drop (32 * g) pages) 32 in let b = drop-fits pages (32 * g) in omega arith

pub group-length : {X : Type 0} (pages : List (List X)) (g : ℕ) → 32 * g + 32 ≤ length pages → length (group_at pages g) ≡ 32
group-length pages g l = length-take-le 32 (drop (32 * g) pages) (let e = length-drop (32 * g) pages in omega arith)

pub group-entry : {X : Type 0} (pages : List (List X)) (g q : ℕ) (d : List X) → 32 * g ≤ q → q < 32 * g + 32 → get_or (group_at pages g) (q - 32 * g) d ≡ get_or pages q d
group-entry pages g q d a b = get_or-take 32 (drop (32 * g) pages) (q - 32 * g) d (omega arith) ∙ get_or-drop (32 * g) pages (q - 32 * g) d ∙ ap (λ (n : ℕ). get_or pages n d) (let e : 32 * g + (q - 32 * g) ≡ q = omega arith in e)

-- a page is written: its group, and the others
group-set : {X : Type 0} (pages : List (List X)) (g q : ℕ) (y : List X) → 32 * g ≤ q → q < 32 * g + 32 → group_at (set pages q y) g ≡ set (group_at pages g) (q - 32 * g) y
group-set pages g q y a b =
    ap (λ (n : ℕ). take 32 (drop (32 * g) (set pages n y))) (let e : q ≡ 32 * g + (q - 32 * g) = omega arith in e)
    ∙ ap (λ (l : List (List _)). take 32 l) (drop-set-add (32 * g) pages (q - 32 * g) y)
    ∙ take-set-lt 32 (drop (32 * g) pages) (q - 32 * g) y (omega arith)

group-other : {X : Type 0} (pages : List (List X)) (g q : ℕ) (y : List X) → (q < 32 * g) ⊎ (32 * g + 32 ≤ q) → group_at (set pages q y) g ≡ group_at pages g
group-other pages g q y (inl a) = ap (λ (l : List (List _)). take 32 l) (drop-set-lt (32 * g) pages q y a)
group-other pages g q y (inr b) =
    ap (λ (n : ℕ). take 32 (drop (32 * g) (set pages n y))) (let e : q ≡ 32 * g + (q - 32 * g) = omega arith in e)
    ∙ ap (λ (l : List (List _)). take 32 l) (drop-set-add (32 * g) pages (q - 32 * g) y)
    ∙ take-set-le 32 (drop (32 * g) pages) (q - 32 * g) y (omega arith)

pub sums-set : {X S : Type 0} (sums_up : S → List X → Type 0) (pages : List (List X)) (q : ℕ) (y : List X) (old new : List S) → IsSums sums_up pages old → length new ≡ length old → ((n : ℕ) (d : S) → n ≢ q / 32 → get_or new n d ≡ get_or old n d) → ((d : S) → q / 32 < length old → sums_up (get_or new (q / 32) d) (joined (set (group_at pages (q / 32)) (q - 32 * (q / 32)) y))) → IsSums sums_up (set pages q y) new
sums-set {X} {S} sums_up pages q y old new s len others own = record {
  within = λ g w. (let a = s.within g (omega arith) in let b = length-set pages q y in omega arith);
  is = λ g d w. low g d (omega (arith, len)) (cases_lt g (q / 32));
}
  where
    other : (g : ℕ) (d : S) → g < length old → g ≢ q / 32 → (q < 32 * g) ⊎ (32 * g + 32 ≤ q) → sums_up (get_or new g d) (joined (group_at (set pages q y) g))
    other g d w n o = rw (others g d n, group-other pages g q y o) (s.is g d w)

    here : (g : ℕ) (d : S) → g < length old → q / 32 ≡ g → sums_up (get_or new g d) (joined (group_at (set pages q y) g))
    here g d w e = subst (λ (n : ℕ). sums_up (get_or new n d) (joined (group_at (set pages q y) n))) e (rw (group-set pages (q / 32) q y (omega arith) (omega arith)) (own d (omega arith)))

    high : (g : ℕ) (d : S) → g < length old → q / 32 ≤ g → (q / 32 < g) ⊎ (g ≤ q / 32) → sums_up (get_or new g d) (joined (group_at (set pages q y) g))
    high g d w a (inl b) = other g d w (omega arith) (inl (omega arith))
    high g d w a (inr b) = here g d w (omega arith)

    low : (g : ℕ) (d : S) → g < length old → (g < q / 32) ⊎ (q / 32 ≤ g) → sums_up (get_or new g d) (joined (group_at (set pages q y) g))
    low g d w (inl a) = other g d w (omega arith) (inr (omega arith))
    low g d w (inr a) = high g d w a (cases_lt (q / 32) g)

-- one more in page q
pub sums-insert : {X S : Type 0} (sums_up : S → List X → Type 0) (pages : List (List X)) (q k : ℕ) (x : X) (old new : List S) → k ≤ length (get_or pages q []) → length (joined pages) < 2 ^ 48 → IsSums sums_up pages old → length new ≡ length old → ((n : ℕ) (d : S) → n ≢ q / 32 → get_or new n d ≡ get_or old n d) → ((xs : List X) (i : ℕ) (d : S) → q / 32 < length old → length xs < 2 ^ 48 → i ≤ length xs → sums_up (get_or old (q / 32) d) xs → sums_up (get_or new (q / 32) d) (insert xs i x)) → IsSums sums_up (set pages q (insert (get_or pages q []) k x)) new
sums-insert {X} {S} sums_up pages q k x old new l fits s len others more = sums-set sums_up pages q (insert (get_or pages q []) k x) old new s len others own
  where
    own : (d : S) → q / 32 < length old → sums_up (get_or new (q / 32) d) (joined (set (group_at pages (q / 32)) (q - 32 * (q / 32)) (insert (get_or pages q []) k x)))
    own d w =
        let grp = group_at pages (q / 32) in
        let r = q - 32 * (q / 32) in
        let e = group-entry pages (q / 32) q [] (omega arith) (omega arith) in
        let n = group-length pages (q / 32) (s.within (q / 32) w) in
        let f = group-fits pages (q / 32) in
        let inside : r < length grp = omega arith in
        let m = ap length e in
        let j : k ≤ length (get_or grp r []) = omega (arith, l) in
        let t = page-fits grp r inside in
        subst (λ (p : List X). sums_up (get_or new (q / 32) d) (joined (set grp r (insert p k x)))) e (rw (joined-insert grp r k x inside j) (more (joined grp) (start_of grp r + k) d w (omega (arith, fits)) (omega arith) (s.is (q / 32) d w)))

-- another in page q
pub sums-write : {X S : Type 0} (sums_up : S → List X → Type 0) (pages : List (List X)) (q k : ℕ) (b x : X) (old new : List S) → k < length (get_or pages q []) → b ≡ get_or (get_or pages q []) k b → length (joined pages) < 2 ^ 48 → IsSums sums_up pages old → length new ≡ length old → ((n : ℕ) (d : S) → n ≢ q / 32 → get_or new n d ≡ get_or old n d) → ((xs : List X) (i : ℕ) (d : S) → q / 32 < length old → length xs < 2 ^ 48 → i < length xs → b ≡ get_or xs i b → sums_up (get_or old (q / 32) d) xs → sums_up (get_or new (q / 32) d) (set xs i x)) → IsSums sums_up (set pages q (set (get_or pages q []) k x)) new
sums-write {X} {S} sums_up pages q k b x old new l is fits s len others replaced = sums-set sums_up pages q (set (get_or pages q []) k x) old new s len others own
  where
    own : (d : S) → q / 32 < length old → sums_up (get_or new (q / 32) d) (joined (set (group_at pages (q / 32)) (q - 32 * (q / 32)) (set (get_or pages q []) k x)))
    own d w =
        let grp = group_at pages (q / 32) in
        let r = q - 32 * (q / 32) in
        let e = group-entry pages (q / 32) q [] (omega arith) (omega arith) in
        let n = group-length pages (q / 32) (s.within (q / 32) w) in
        let f = group-fits pages (q / 32) in
        let inside : r < length grp = omega arith in
        let m = ap length e in
        let j : k < length (get_or grp r []) = omega (arith, l) in
        let t = page-within grp r k inside j in
        let at : b ≡ get_or (joined grp) (start_of grp r + k) b = is ∙ sym (entry-joined grp r k b inside j ∙ ap (λ (p : List X). get_or p k b) e) in
        subst (λ (p : List X). sums_up (get_or new (q / 32) d) (joined (set grp r (set p k x)))) e (rw (joined-set grp r k x inside j) (replaced (joined grp) (start_of grp r + k) d w (omega (arith, fits)) t at (s.is (q / 32) d w)))

-- a summary of some pages of a group, and of one more
page-at : {X : Type 0} (pages : List (List X)) (g k : ℕ) (r : List X) → 32 * g + k < length pages → r ≡ get_or pages (32 * g + k) r → get_or (drop (32 * g) pages) k [] ≡ r
page-at pages g k r l e = get_or-drop (32 * g) pages k [] ∙ sym (get_or_read pages (32 * g + k) r l e [])

more-pages : {X : Type 0} (pages : List (List X)) (g k : ℕ) (r : List X) → 32 * g + k < length pages → r ≡ get_or pages (32 * g + k) r → joined (take (k + 1) (drop (32 * g) pages)) ≡ joined (take k (drop (32 * g) pages)) ++ r
more-pages pages g k r l e = rw add-one (joined-more (drop (32 * g) pages) k (let n = length-drop (32 * g) pages in omega arith) ∙ ap (λ (z : List _). joined (take k (drop (32 * g) pages)) ++ z) (page-at pages g k r l e))

pub sum-fits : {X : Type 0} (pages : List (List X)) (g k : ℕ) (r : List X) → 32 * g + k < length pages → r ≡ get_or pages (32 * g + k) r → length (joined pages) < 2 ^ 48 → length (joined (take k (drop (32 * g) pages))) + length r < 2 ^ 48
sum-fits pages g k r l e f =
    let a = ap length (more-pages pages g k r l e) in
    let b = length-append (joined (take k (drop (32 * g) pages))) r in
    let c = start-le (drop (32 * g) pages) (k + 1) in
    let d = drop-fits pages (32 * g) in
    omega arith

pub sum-next : {X S : Type 0} (sums_up : S → List X → Type 0) (pages : List (List X)) (g k : ℕ) (r : List X) (s : S) → 32 * g + k < length pages → r ≡ get_or pages (32 * g + k) r → sums_up s (joined (take k (drop (32 * g) pages)) ++ r) → sums_up s (joined (take (k + 1) (drop (32 * g) pages)))
sum-next sums_up pages g k r s l e t = rw (more-pages pages g k r l e) t

-- how many are picked up to the end of a group
pub group-count : {X : Type 0} (picks : X → Bool) (pages : List (List X)) (g : ℕ) → count_by picks (joined (take (32 * g + 32) pages)) ≡ count_by picks (joined (take (32 * g) pages)) + count_by picks (joined (group_at pages g))
group-count picks pages g = ap (count_by picks) (group-next pages g) ∙ count-append picks (joined (take (32 * g) pages)) (joined (group_at pages g))

pub group-start : {X : Type 0} (pages : List (List X)) (g : ℕ) → start_of pages (32 * g + 32) ≡ start_of pages (32 * g) + length (joined (group_at pages g))
group-start pages g = ap length (group-next pages g) ∙ length-append (joined (take (32 * g) pages)) (joined (group_at pages g))

pub start-grows : {X : Type 0} (pages : List (List X)) (n m : ℕ) → start_of pages n ≤ start_of pages (n + m)
start-grows pages n m =
    let a = ap length (ap joined (take-add n m pages) ∙ joined-append (take n pages) (take m (drop n pages))) in
    let b = length-append (joined (take n pages)) (joined (take m (drop n pages))) in
    omega arith

-- the group of page q summed up again
pub sums-again : {X S : Type 0} (sums_up : S → List X → Type 0) (pages : List (List X)) (q : ℕ) (y : List X) (old new : List S) → IsSums sums_up pages old → length new ≡ length old → ((n : ℕ) (d : S) → n ≢ q / 32 → get_or new n d ≡ get_or old n d) → ((d : S) → q / 32 < length old → sums_up (get_or new (q / 32) d) (joined (group_at (set pages q y) (q / 32)))) → IsSums sums_up (set pages q y) new
sums-again sums_up pages q y old new s len others summed = sums-set sums_up pages q y old new s len others (λ d w. subst (λ (z : List (List _)). sums_up (get_or new (q / 32) d) (joined z)) (group-set pages (q / 32) q y (omega arith) (omega arith)) (summed d w))
