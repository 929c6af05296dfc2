-- Texts that are written one after the other.
use Rattle.std.proofs.Common.{◌≡◌, ℕ, List, ◌++◌, ap, ◌∙◌, if◌then◌else◌}
use Rattle.std.specs.Prelude.{OnOk, Result, Ok, Err, is_ok}
use Rattle.view_proof.proofs.Texts.{two}
use Rattle.view_picture.proofs.Texts.{five}

-- what is pushed stands at the end, where it was pushed, under each name that it has
pub pushed_as : {E : Type 0} (r : Result (Unit {0}) E) (a b x y : List ℕ) → b ≡ (if is_ok r then a ++ x else a) → x ≡ y → OnOk r (b ≡ a ++ y)
pushed_as (Ok done) a b x y is named = is ∙ ap (λ l. a ++ l) named
pushed_as (Err why) a b x y is named = tt

pub six : {E : Type 0} (r : Result (Unit {0}) E) (a b c d e f h x y z w v u : List ℕ) → b ≡ a ++ x → c ≡ b ++ y → d ≡ c ++ z → e ≡ d ++ w → f ≡ e ++ v → OnOk r (h ≡ f ++ u)
    → OnOk r (h ≡ a ++ (x ++ (y ++ (z ++ (w ++ (v ++ u))))))
six r a b c d e f h x y z w v u first second third fourth fifth last =
    two r a b h x (y ++ (z ++ (w ++ (v ++ u)))) first (five r b c d e f h y z w v u second third fourth fifth last)
