-- What is written of two ribbons.
use Rattle.std.proofs.Common.{◌≡◌, ◌∙◌, ℕ, List, Bool, ap}
use Rattle.std.specs.Prelude.{IfOk, Result, Ok, Err, String, string_bytes}
use Rattle.desk_case.specs.Case.{CaseValues}
use Rattle.desk_units.specs.declared.Pica.{Pica}
use Rattle.desk_wedge.specs.Wedge.{WedgeValues}
use Rattle.view_ribbon.specs.Casting.{Cast, IsOutcome}
use Rattle.view_ribbon.specs.Comparing.{IsCompared}
use Rattle.view_ribbon.specs.Differences.{are_alike, comparison_text}

-- what is written of two outcomes is written of their bytes
pub of_outcomes : {A E : Type 0} (one other first second : List ℕ) (case : CaseValues) (wedge : WedgeValues) (pica : Pica) (a b : Result Cast (List ℕ)) (r : Result (String A × Bool) E) → pica ≡ wedge.pica
    → IsOutcome first case wedge a → IsOutcome second case wedge b → IfOk r (λ t. string_bytes t.0 ≡ comparison_text pica one other a b) → IfOk r (λ t. t.1 ≡ are_alike a b)
    → IfOk r (λ t. IsCompared one other first second case wedge (string_bytes t.0) t.1)
of_outcomes one other first second case wedge pica a b (Ok t) same is_one is_other text alike = (a, b, is_one, is_other, text ∙ ap (λ (p : Pica). comparison_text p one other a b) same, alike)
of_outcomes one other first second case wedge pica a b (Err e) same is_one is_other text alike = tt
