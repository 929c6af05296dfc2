-- The last point of a text.
use Rattle.std.proofs.Common.{◌≡◌, ◌≢◌, ◌==◌, ℕ, zero, suc, ◌<◌, ◌≤◌, Bool, true, false, cond, List, length, get_or, Option, Some, None, refl, sym, ap, ◌∙◌, arith, ◌⊎◌, inl, inr}
use Rattle.std.specs.Prelude.{MatchOption}
use Rattle.std.proofs.Math.Nat.{eq-or-lt_of_le}
use Rattle.std.specs.Path.{rfind_below}

-- none of the first n bytes is c
pub rfind_none : (c : ℕ) (bs : List ℕ) (n : ℕ) → ((i : ℕ) → i < n → get_or bs i 0 ≢ c) → rfind_below c bs n ≡ None
rfind_none c bs zero lack = refl
rfind_none c bs (suc n) lack = grind (arith, lack n (omega arith), rfind_none c bs n (λ i lt. lack i (omega arith)))

-- the one at the end of the first n is
last_is : (c : ℕ) (bs : List ℕ) (n : ℕ) → get_or bs n 0 ≡ c → rfind_below c bs (suc n) ≡ Some n
last_is c bs n is = grind (arith, is)

-- it is not
last_not : (c : ℕ) (bs : List ℕ) (n k : ℕ) → get_or bs n 0 ≢ c → rfind_below c bs n ≡ Some k → rfind_below c bs (suc n) ≡ Some k
last_not c bs n k lack before = grind (arith, lack, before)

at_most : (k n : ℕ) → k < suc n → k ≤ n
at_most k n lt = omega arith

-- the k-th is, and none behind it
pub rfind_some : (c : ℕ) (bs : List ℕ) (n k : ℕ) → k < n → get_or bs k 0 ≡ c → ((i : ℕ) → k < i → i < n → get_or bs i 0 ≢ c) → rfind_below c bs n ≡ Some k
rfind_some c bs zero k lt is lack = absurd (omega arith)
rfind_some c bs (suc n) k lt is lack = go (eq-or-lt_of_le (at_most k n lt)) (λ less. rfind_some c bs n k less is (λ i a b. lack i a (omega arith)))
  where
    go : (k ≡ n) ⊎ (k < n) → (k < n → rfind_below c bs n ≡ Some k) → rfind_below c bs (suc n) ≡ Some k
    go (inl e) rest = ap (λ m. rfind_below c bs (suc m)) (sym e) ∙ last_is c bs k is
    go (inr less) rest = last_not c bs n k (lack n less (omega arith)) (rest less)

-- what a search from the back finds
pub found : (bs : List ℕ) (r : Option ℕ)
    → MatchOption r ((i : ℕ) → i < length bs → get_or bs i 0 ≢ 46) (λ k. (k < length bs) × (get_or bs k 0 ≡ 46) × ((i : ℕ) → k < i → i < length bs → get_or bs i 0 ≢ 46))
    → rfind_below 46 bs (length bs) ≡ r
found bs None lack = rfind_none 46 bs (length bs) lack
found bs (Some k) is = rfind_some 46 bs (length bs) k is.0 is.1 is.2
