-- Characters that are written one after the other.
use Rattle.std.proofs.Common.{◌≡◌, ℕ, ◌+◌, ◌<◌, ◌≤◌, List, [], ◌++◌, length, drop, get_or, refl, sym, ap, ◌∙◌, append_assoc, append-nil}
use Rattle.std.proofs.lemmas.List.{at_drop_all}
use Rattle.desk_ops.proofs.Lists.{drop-at}
use Rattle.view_galley.specs.Svg.{escaped, escaped_char}

-- one more
pub escaped_on : (cs : List ℕ) (n m c : ℕ) (before after all : List ℕ) → (n < length cs) × (c ≡ get_or cs n c) → m ≡ n + 1 → after ≡ before ++ escaped_char c
    → before ++ escaped (drop n cs) ≡ all → after ++ escaped (drop m cs) ≡ all
escaped_on cs n m c before after all at moved pushed so_far =
    let rest = escaped (drop (n + 1) cs) in
    let ahead : after ++ escaped (drop m cs) ≡ (before ++ escaped_char c) ++ rest = rw (pushed, moved) refl in
    ahead ∙ append_assoc before (escaped_char c) rest ∙ ap (λ xs. before ++ escaped xs) (sym (drop-at cs n c c at.0 at.1)) ∙ so_far

-- at the end
pub escaped_end : (cs : List ℕ) (n : ℕ) (before all : List ℕ) → length cs ≤ n → before ++ escaped (drop n cs) ≡ all → before ≡ all
escaped_end cs n before all past so_far =
    sym (append-nil before) ∙ ap (λ xs. before ++ xs) (sym (at_drop_all escaped cs n past)) ∙ so_far
