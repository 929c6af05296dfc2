use Rattle.std.proofs.Common.{◌≡◌, ℕ, List, [], ◌∷◌, ◌++◌, refl}
use Rattle.std.specs.Prelude.{MatchResult, None, Option, Some}
use Rattle.desk_ops.specs.declared.op.Key.{Key}
use Rattle.desk_ops.specs.declared.op.Key.TheVariants as keys
use Rattle.desk_job.specs.Job.{all_given}
use Rattle.view_proof.specs.Reasons.{missing_if}
use Rattle.view_proof.proofs.laws.missing_begin.Goals as goal

abbrev of_values : (measure tight loose case wedge : Option ℕ) → List Key
of_values measure tight loose case wedge =
    missing_if measure keys.Measure ++ (missing_if tight keys.Tight ++ (missing_if loose keys.Loose ++ (missing_if case keys.Case ++ missing_if wedge keys.Wedge)))

begins : (measure tight loose case wedge : Option ℕ)
    → MatchResult (all_given measure tight loose case wedge) (λ _. of_values measure tight loose case wedge ≡ []) (λ key. (more : List Key) × (of_values measure tight loose case wedge ≡ key ∷ more))
begins None tight loose case wedge =
    (missing_if tight keys.Tight ++ (missing_if loose keys.Loose ++ (missing_if case keys.Case ++ missing_if wedge keys.Wedge)), refl)
begins (Some measure) None loose case wedge = (missing_if loose keys.Loose ++ (missing_if case keys.Case ++ missing_if wedge keys.Wedge), refl)
begins (Some measure) (Some tight) None case wedge = (missing_if case keys.Case ++ missing_if wedge keys.Wedge, refl)
begins (Some measure) (Some tight) (Some loose) None wedge = (missing_if wedge keys.Wedge, refl)
begins (Some measure) (Some tight) (Some loose) (Some case) None = ([], refl)
begins (Some measure) (Some tight) (Some loose) (Some case) (Some wedge) = refl

pub returns : goal.returns
returns c = λ settings. begins (settings keys.Measure) (settings keys.Tight) (settings keys.Loose) (settings keys.Case) (settings keys.Wedge)
