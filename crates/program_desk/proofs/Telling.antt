-- Lines that are written in parts.
use Rattle.std.proofs.Common.{◌≡◌, ◌∙◌, ap, sym, subst, ℕ, ◌+◌, ◌%◌, ◌<◌, Bool, List, [], ◌∷◌, ◌++◌, append_assoc, append-nil, arith}
use Rattle.std.specs.Prelude.{Option}
use Rattle.std.specs.Fmt.{decimal}
use Rattle.std.proofs.lemmas.Fmt.{decimal_digit}
use Rattle.program_desk.specs.Told.{GoesOn, Tells}

-- what goes on twice goes on by both texts
pub goes_on_twice : (begun mid whole : Bool) (b c d : Option (List ℕ)) (more most : List ℕ) → GoesOn begun mid b c more → GoesOn mid whole c d most → GoesOn begun whole b d (more ++ most)
goes_on_twice begun mid whole b c d more most first second a lines told = subst (λ l. Tells whole a d l) (append_assoc lines more most) (second a (lines ++ more) (first a lines told))

-- nothing more is written
pub stays : (begun : Bool) (b : Option (List ℕ)) → GoesOn begun begun b b []
stays begun b a lines told = subst (λ l. Tells begun a b l) (sym (append-nil lines)) told

-- a number of one digit
same_digit : (n : ℕ) → n < 10 → n % 10 ≡ n
same_digit n small = omega (arith, small)

pub one_digit : (n : ℕ) → n < 10 → (48 + n % 10) ∷ [] ≡ decimal n
one_digit n small = ap (λ k. (48 + k) ∷ []) (same_digit n small) ∙ sym (decimal_digit n small)
