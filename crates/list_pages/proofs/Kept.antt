-- What is known of the groups before a place stays right while the pages before it are the same.
use Rattle.std.proofs.Common.{◌≡◌, ℕ, zero, suc, ◌+◌, ◌*◌, ◌≤◌, List, [], ◌∷◌, length, take, drop, refl, sym, ap, ◌∙◌, arith}
use Rattle.std.proofs.lemmas.List.{take-take, drop-take, get_or-take, length-take, length-take-le}
use Rattle.list_pages.specs.Pages.{joined, start_of, group_at, IsStarts, IsSums, IsGroups}
use Rattle.list_shelf.specs.Shelf.{cut_at}

-- ---- fewer of the same

pub take-fewer : {X : Type 0} (n q : ℕ) (new old : List X) → n ≤ q → take q new ≡ take q old → take n new ≡ take n old
take-fewer n q new old l e = sym (take-take n q new l) ∙ ap (take n) e ∙ take-take n q old l

as-long : {X : Type 0} (n q : ℕ) (new old : List X) → n ≤ q → n ≤ length old → take q new ≡ take q old → n ≤ length new
as-long n q new old l m e =
    let a = ap length (take-fewer n q new old l e) in
    let b = length-take-le n old m in
    let c = length-take n new in
    omega arith

same-start : {X : Type 0} (n q : ℕ) (new old : List (List X)) → n ≤ q → take q new ≡ take q old → start_of old n ≡ start_of new n
same-start n q new old l e = ap (λ (z : List (List _)). length (joined z)) (sym (take-fewer n q new old l e))

same-group : {X : Type 0} (g q : ℕ) (new old : List (List X)) → 32 * g + 32 ≤ q → take q new ≡ take q old → group_at old g ≡ group_at new g
same-group g q new old l e = sym (drop-take (32 * g) 32 old) ∙ ap (drop (32 * g)) (sym (take-fewer (32 * g + 32) q new old l e)) ∙ drop-take (32 * g) 32 new

-- ---- the groups before a place

kept-starts : {X : Type 0} (new old : List (List X)) (starts : List ℕ) (kept q : ℕ) → 32 * kept ≤ q → take q new ≡ take q old → IsStarts old starts → IsStarts new (take kept starts)
kept-starts new old starts kept q l e s = record {
  within = λ g w. (let n = length-take kept starts in as-long (32 * g) q new old (omega arith) (s.within g (omega arith)) e);
  is = λ g w. (let n = length-take kept starts in get_or-take kept starts g 0 (omega arith) ∙ s.is g (omega arith) ∙ same-start (32 * g) q new old (omega arith) e);
}

kept-sums : {X S : Type 0} (sums_up : S → List X → Type 0) (new old : List (List X)) (sums : List S) (kept q : ℕ) → 32 * kept ≤ q → take q new ≡ take q old → IsSums sums_up old sums → IsSums sums_up new (take kept sums)
kept-sums sums_up new old sums kept q l e s = record {
  within = λ g w. (let n = length-take kept sums in as-long (32 * g + 32) q new old (omega arith) (s.within g (omega arith)) e);
  is = λ g d w. (
      let n = length-take kept sums in
      rw (get_or-take kept sums g d (omega arith), sym (same-group g q new old (omega arith) e)) (s.is g d (omega arith)));
}

pub kept-groups : {X S : Type 0} (sums_up : S → List X → Type 0) (new old : List (List X)) (starts : List ℕ) (sums : List S) (kept q : ℕ) → 32 * kept ≤ q → take q new ≡ take q old → IsGroups sums_up old starts sums → IsGroups sums_up new (take kept starts) (take kept sums)
kept-groups sums_up new old starts sums kept q l e s = (kept-starts new old starts kept q l e s.0, kept-sums sums_up new old sums kept q l e s.1)

-- ---- what stands before a page that is cut

pub take-cut : {X : Type 0} (pages : List (List X)) (p : ℕ) → take p (cut_at pages p) ≡ take p pages
take-cut [] p = refl
take-cut (r ∷ pages) zero = refl
take-cut (r ∷ pages) (suc p) = ap (λ (z : List (List _)). r ∷ z) (take-cut pages p)
