-- Where the groups of pages begin.
use Rattle.std.proofs.Common.{◌≡◌, ℕ, zero, suc, ◌+◌, ◌-◌, ◌*◌, ◌/◌, ◌<◌, ◌≤◌, List, [], ◌∷◌, length, get_or, take, set, refl, sym, ap, ◌∙◌, arith, ◌⊎◌, inl, inr, length-append}
use Rattle.std.proofs.lemmas.List.{length-set}
use Rattle.std.proofs.lemmas.Bool.{cases_lt}
use Rattle.list_pages.specs.Pages.{joined, start_of, IsStarts}

-- one more in page p: what is behind it begins one later
pub start-grown : {X : Type 0} (pages : List (List X)) (p n : ℕ) (y : List X) → p < length pages → length y ≡ length (get_or pages p []) + 1 → p < n → start_of (set pages p y) n ≡ start_of pages n + 1
start-grown [] p n y l e m = absurd (omega arith)
start-grown (r ∷ pages) p zero y l e m = absurd (omega arith)
start-grown (r ∷ pages) zero (suc n) y l e m =
    let a = length-append y (joined (take n pages)) in
    let b = length-append r (joined (take n pages)) in
    omega arith
start-grown (r ∷ pages) (suc p) (suc n) y l e m =
    let a = length-append r (joined (take n (set pages p y))) in
    let b = length-append r (joined (take n pages)) in
    let h = start-grown pages p n y (omega arith) e (omega arith) in
    omega arith

-- one less in page p: what is behind it begins one earlier
pub start-shrunk : {X : Type 0} (pages : List (List X)) (p n : ℕ) (y : List X) → p < length pages → length y + 1 ≡ length (get_or pages p []) → p < n → start_of (set pages p y) n + 1 ≡ start_of pages n
start-shrunk [] p n y l e m = absurd (omega arith)
start-shrunk (r ∷ pages) p zero y l e m = absurd (omega arith)
start-shrunk (r ∷ pages) zero (suc n) y l e m =
    let a = length-append y (joined (take n pages)) in
    let b = length-append r (joined (take n pages)) in
    omega arith
start-shrunk (r ∷ pages) (suc p) (suc n) y l e m =
    let a = length-append r (joined (take n (set pages p y))) in
    let b = length-append r (joined (take n pages)) in
    let h = start-shrunk pages p n y (omega arith) e (omega arith) in
    omega arith

pub start-before : {X : Type 0} (pages : List (List X)) (p n : ℕ) (y : List X) → n ≤ p → start_of (set pages p y) n ≡ start_of pages n
start-before [] p n y m = refl
start-before (r ∷ pages) p zero y m = refl
start-before (r ∷ pages) zero (suc n) y m = absurd (omega arith)
start-before (r ∷ pages) (suc p) (suc n) y m =
    let a = length-append r (joined (take n (set pages p y))) in
    let b = length-append r (joined (take n pages)) in
    let h = start-before pages p n y (omega arith) in
    omega arith

start-same : {X : Type 0} (pages : List (List X)) (p n : ℕ) (y : List X) → length y ≡ length (get_or pages p []) → start_of (set pages p y) n ≡ start_of pages n
start-same [] p n y e = refl
start-same (r ∷ pages) p zero y e = refl
start-same (r ∷ pages) zero (suc n) y e =
    let a = length-append y (joined (take n pages)) in
    let b = length-append r (joined (take n pages)) in
    omega arith
start-same (r ∷ pages) (suc p) (suc n) y e =
    let a = length-append r (joined (take n (set pages p y))) in
    let b = length-append r (joined (take n pages)) in
    let h = start-same pages p n y e in
    omega arith

pub starts-set : {X : Type 0} (pages : List (List X)) (p : ℕ) (y : List X) (starts : List ℕ) → length y ≡ length (get_or pages p []) → IsStarts pages starts → IsStarts (set pages p y) starts
starts-set pages p y starts e s = record {
  within = λ g l. (let a = s.within g l in let b = length-set pages p y in omega arith);
  is = λ g l. s.is g l ∙ sym (start-same pages p (32 * g) y e);
}

pub starts-raised : {X : Type 0} (pages : List (List X)) (q : ℕ) (y : List X) (old new : List ℕ) → q < length pages → length y ≡ length (get_or pages q []) + 1 → IsStarts pages old → length new ≡ length old → ((n : ℕ) → n < q / 32 + 1 → get_or new n 0 ≡ get_or old n 0) → ((n : ℕ) → q / 32 + 1 ≤ n → n < length old → get_or new n 0 ≡ get_or old n 0 + 1) → IsStarts (set pages q y) new
starts-raised pages q y old new l e s len below raised = record {
  within = λ g w. (let a = s.within g (omega arith) in let b = length-set pages q y in omega arith);
  is = λ g w. go g (omega arith) (cases_lt g (q / 32 + 1));
}
  where
    go : (g : ℕ) → g < length old → (g < q / 32 + 1) ⊎ (q / 32 + 1 ≤ g) → get_or new g 0 ≡ start_of (set pages q y) (32 * g)
    go g w (inl a) = below g a ∙ s.is g w ∙ sym (start-before pages q (32 * g) y (omega arith))
    go g w (inr b) = raised g b w ∙ ap (λ (n : ℕ). n + 1) (s.is g w) ∙ sym (start-grown pages q (32 * g) y l e (omega arith))

pub starts-lowered : {X : Type 0} (pages : List (List X)) (q : ℕ) (y : List X) (old new : List ℕ) → q < length pages → length y + 1 ≡ length (get_or pages q []) → IsStarts pages old → length new ≡ length old → ((n : ℕ) → n < q / 32 + 1 → get_or new n 0 ≡ get_or old n 0) → ((n : ℕ) → q / 32 + 1 ≤ n → n < length old → get_or new n 0 ≡ get_or old n 0 - 1) → IsStarts (set pages q y) new
starts-lowered pages q y old new l e s len below lowered = record {
  within = λ g w. (let a = s.within g (omega arith) in let b = length-set pages q y in omega arith);
  is = λ g w. go g (omega arith) (cases_lt g (q / 32 + 1));
}
  where
    go : (g : ℕ) → g < length old → (g < q / 32 + 1) ⊎ (q / 32 + 1 ≤ g) → get_or new g 0 ≡ start_of (set pages q y) (32 * g)
    go g w (inl a) = below g a ∙ s.is g w ∙ sym (start-before pages q (32 * g) y (omega arith))
    go g w (inr b) =
        let a = lowered g b w in
        let c = s.is g w in
        let d = start-shrunk pages q (32 * g) y l e (omega arith) in
        omega arith
