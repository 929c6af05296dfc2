-- Texts that are written one after the other.
use Rattle.std.proofs.Common.{◌≡◌, ℕ, List, ◌++◌, if◌then◌else◌}
use Rattle.std.specs.Prelude.{OnOk, Result, Ok, Err, is_ok}
use Rattle.view_proof.proofs.Texts.{two, four}

-- what is pushed stands at the end, where it was pushed
pub pushed : {E : Type 0} (r : Result (Unit {0}) E) (a b x : List ℕ) → b ≡ (if is_ok r then a ++ x else a) → OnOk r (b ≡ a ++ x)
pushed (Ok done) a b x is = is
pushed (Err why) a b x is = tt

pub five : {E : Type 0} (r : Result (Unit {0}) E) (a b c d e f x y z w v : List ℕ) → b ≡ a ++ x → c ≡ b ++ y → d ≡ c ++ z → e ≡ d ++ w → OnOk r (f ≡ e ++ v)
    → OnOk r (f ≡ a ++ (x ++ (y ++ (z ++ (w ++ v)))))
five r a b c d e f x y z w v first second third fourth last = two r a b f x (y ++ (z ++ (w ++ v))) first (four r b c d e f y z w v second third fourth last)
