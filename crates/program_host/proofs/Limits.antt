-- Bytes read up to a limit.
use Rattle.std.proofs.Common.{◌≡◌, ℕ, ◌+◌, ◌≤◌, true, false, List, [], ◌++◌, Option, Some, None, length, take, nat_le, subst, ◌∙◌, arith, inl, inr}
use Rattle.std.specs.Prelude.{IfSome, option_map}
use Rattle.std.proofs.lemmas.Bool.{cases_Bool}
use Rattle.std.proofs.lemmas.Bool.Decides.{nat_tests}
use Rattle.std.proofs.lemmas.List.{length-take-le, take_all}

short : (n : ℕ) (input : List ℕ) → length (take (n + 1) input) ≤ n → length input ≤ n
short n input few = elim (cases_Bool (nat_le (n + 1) (length input))) [ inl e ↦ long e | inr e ↦ at_most n (length input) e ]
  where
    more : (x y : ℕ) → nat_le x y ≡ true → x ≤ y
    more x y e = grind (arith, nat_tests)

    at_most : (x y : ℕ) → nat_le (x + 1) y ≡ false → y ≤ x
    at_most x y e = grind (arith, nat_tests)

    long : nat_le (n + 1) (length input) ≡ true → length input ≤ n
    long e =
        let all : length (take (n + 1) input) ≡ n + 1 = length-take-le (n + 1) input (more (n + 1) (length input) e) in
        absurd (omega arith)

-- what was read within the limit is all
pub within_limit : (known : Option (List ℕ)) (n : ℕ) (items : List ℕ) → IfSome (option_map (take (n + 1)) known) (λ xs. items ≡ xs) → length items ≤ n → IfSome known (λ input. items ≡ input)
within_limit None n items is few = tt
within_limit (Some input) n items is few =
    let all : length input ≤ n = short n input (subst (λ l. length l ≤ n) is few) in
    let fits : length input ≤ n + 1 = omega arith in
    is ∙ take_all (n + 1) input fits

-- the same, of a buffer that was empty
pub limited : (known : Option (List ℕ)) (n limit : ℕ) (old items : List ℕ) → limit ≡ n + 1 → old ≡ [] → IfSome (option_map (take limit) known) (λ xs. items ≡ old ++ xs) → length items ≤ n
    → IfSome known (λ input. items ≡ input)
limited known n limit old items one_more none is few =
    within_limit known n items
    (subst (λ (l : ℕ). IfSome (option_map (take l) known) (λ xs. items ≡ xs)) one_more
    (subst (λ (o : List ℕ). IfSome (option_map (take limit) known) (λ xs. items ≡ o ++ xs)) none is)) few
