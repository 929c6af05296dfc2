-- What is found at one more place, and words that are alike.
use Rattle.std.proofs.Common.{◌≡◌, ℕ, suc, ◌+◌, ◌-◌, ◌<◌, List, [], ◌∷◌, ◌++◌, append_assoc, refl, sym, ap, ap₂, arith, ◌∙◌}
use Rattle.std.specs.Prelude.{◌==◌, ◌&&◌}
use Rattle.std.specs.Bool.{Decides}
use Rattle.std.specs.List.{flat_map, range_with_len}
use Rattle.std.proofs.lemmas.Bool.{false≢true}
use Rattle.std.proofs.lemmas.Bool.Decides.{Decides-and, Decides-at, Decides-like}
use Rattle.desk_ops.specs.declared.op.Symbol.{Symbol}
use Rattle.desk_ops.specs.contracts.op.SymbolPartialEq.TheImpl as symbol_eq
use Rattle.desk_ops.proofs.Symbols.{style_is, same_symbols}
use Rattle.text_copy.specs.Places.{same_symbol}
use Rattle.view_preview.specs.Looks.{are_alike}

-- what is found at one more place stands behind what was found before it
pub found_there : {A : Type 0} (found : ℕ → List A) (n place : ℕ) (before after whole : List A) → place < n → before ++ flat_map found (range_with_len place (n - place)) ≡ whole → after ≡ before ++ found place
    → after ++ flat_map found (range_with_len (place + 1) (n - (place + 1))) ≡ whole
found_there found n place before after whole lt so_far more =
    let here : n - place ≡ suc (n - (place + 1)) = omega arith in
    ap (λ l. l ++ flat_map found (range_with_len (place + 1) (n - (place + 1)))) more
    ∙ append_assoc before (found place) (flat_map found (range_with_len (place + 1) (n - (place + 1))))
    ∙ ap (λ k. before ++ flat_map found (range_with_len place k)) (sym here) ∙ so_far

symbols_decide : (s t : Symbol) → Decides (same_symbol s t) (s ≡ t)
symbols_decide s t = Decides-at (same_symbol s t) ((symbol_eq.eq-value).it s t) (sym (ap (λ b. b && (s.ch == t.ch)) (style_is s.style t.style))) (same_symbols s t)

-- the test says whether two texts are one
pub alike_decides : (v w : List Symbol) → Decides (are_alike v w) (v ≡ w)
alike_decides [] [] = (λ e. refl, λ e. refl)
alike_decides [] (t ∷ w) = (λ e. absurd (false≢true e), λ (e : [] ≡ t ∷ w). cc)
alike_decides (s ∷ v) [] = (λ e. absurd (false≢true e), λ (e : s ∷ v ≡ []). cc)
alike_decides (s ∷ v) (t ∷ w) =
    Decides-like (same_symbol s t && are_alike v w) (λ (p : (s ≡ t) × (v ≡ w)). ap₂ (λ x xs. x ∷ xs) p.0 p.1) (λ (e : s ∷ v ≡ t ∷ w). (cc, cc))
    (Decides-and (same_symbol s t) (are_alike v w) (symbols_decide s t) (alike_decides v w))
