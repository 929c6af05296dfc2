-- Texts whose symbols are shown as they are.
use Rattle.std.proofs.Common.{◌≡◌, ◌≤◌, true, not, ◌&&◌, List, [], ◌∷◌, ◌++◌, length, refl, sym, ap, ◌∙◌}
use Rattle.std.specs.Prelude.{◌==◌}
use Rattle.std.specs.List.{list_all}
use Rattle.std.proofs.lemmas.Bool.{le-ltb, true≢false}
use Rattle.desk_ops.specs.declared.op.Symbol.{Symbol}
use Rattle.desk_ops.proofs.Stamps.{by_cases}
use Rattle.text_copy.specs.Plain.{all_shown, is_directional, shown}
use Rattle.text_copy.specs.Writing.{text_bytes}
use Rattle.feed_history.specs.Texts.{is_kept, shortened, shown_text}

one_kept : (s : Symbol) → is_kept s ≡ true → shown s ≡ s ∷ []
unfolding shown
one_kept s e = by_cases (s.ch == 10)
    (λ k. absurd (true≢false (sym e ∙ ap (λ b. not b && not (is_directional s.ch)) k)))
    (λ k. by_cases (is_directional s.ch)
    (λ d. absurd (true≢false (sym e ∙ ap (λ b. not b && not (is_directional s.ch)) k ∙ ap not d)))
    (λ d. rw (k, d) refl))

all_kept : (symbols : List Symbol) → list_all is_kept symbols ≡ true → all_shown symbols ≡ symbols
all_kept [] e = refl
all_kept (s ∷ symbols) e = by_cases (is_kept s)
    (λ k. ap (λ l. l ++ all_shown symbols) (one_kept s k) ∙ ap (λ l. s ∷ l) (all_kept symbols (sym (ap (λ b. b && list_all is_kept symbols) k) ∙ e)))
    (λ k. absurd (true≢false (sym e ∙ ap (λ b. b && list_all is_kept symbols) k)))

-- a short text of such symbols is shown as it is
pub kept_text : (symbols : List Symbol) → length symbols ≤ 40 → list_all is_kept symbols ≡ true → shown_text symbols ≡ text_bytes symbols
kept_text symbols few e =
    let short : shortened symbols ≡ symbols = rw (le-ltb 40 (length symbols) few) refl in
    ap (λ l. text_bytes (all_shown l)) short ∙ ap text_bytes (all_kept symbols e)
