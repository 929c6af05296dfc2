-- What is said of several places.
use Rattle.std.proofs.Common.{◌≡◌, ℕ, ◌-◌, false, List, [], ◌∷◌, ◌++◌, length, take, min, sym, ap, ap₂, ◌∙◌}
use Rattle.std.specs.Prelude.{◌==◌}
use Rattle.std.proofs.lemmas.Bool.{true≢false}
use Rattle.std.proofs.lemmas.List.{take_min}
use Rattle.desk_ops.specs.declared.op.Symbol.{Symbol}
use Rattle.text_copy.specs.Reporting.{more_line, place_lines, reported_places}

-- the lines of the first, and how many more there are
pub reported_some : (count : ℕ) (copy : List Symbol) (places none lines reported : List ℕ) (first more : ℕ)
    → false ≡ (length places == 0) → first ≡ min 100 (length places) → more ≡ length places - 100 → none ≡ [] → lines ≡ none ++ place_lines count copy (take first places) → reported ≡ lines ++ more_line more
    → reported ≡ reported_places count copy places
reported_some count copy [] none lines reported first more some is rest empty all is_reported = absurd (true≢false (sym some))
reported_some count copy (place ∷ places) none lines reported first more some is rest empty all is_reported =
    let begin : take first (place ∷ places) ≡ take 100 (place ∷ places) = ap (λ k. take k (place ∷ places)) is ∙ take_min 100 (place ∷ places) in
    is_reported ∙ ap₂ (λ l m. l ++ more_line m) (all ∙ ap₂ (λ l k. l ++ place_lines count copy k) empty begin) rest
