-- A number between two texts.
use Rattle.std.proofs.Common.{◌≡◌, ◌∙◌, ℕ, List, ◌++◌, ap, append_assoc, subst}
use Rattle.std.specs.Prelude.{OnOk, Result, Ok, Err}
use Rattle.view_ribbon.specs.Parts.{between}

-- the same number
pub same_number : {E : Type 0} (r : Result (Unit {0}) E) (out after prefix back : List ℕ) (n m : ℕ) → n ≡ m → OnOk r (after ≡ out ++ between prefix n back) → OnOk r (after ≡ out ++ between prefix m back)
same_number r out after prefix back n m same h = subst (λ (k : ℕ). OnOk r (after ≡ out ++ between prefix k back)) same h

-- two texts, one after the other
pub two_texts : {E : Type 0} (r : Result (Unit {0}) E) (out mid after a b : List ℕ) → mid ≡ out ++ a → OnOk r (after ≡ mid ++ b) → OnOk r (after ≡ out ++ (a ++ b))
two_texts (Ok u) out mid after a b first second = second ∙ (ap (λ l. l ++ b) first ∙ append_assoc out a b)
two_texts (Err e) out mid after a b first second = tt
