-- Places that are written one after the other.
use Rattle.std.proofs.Common.{◌≡◌, ℕ, ◌+◌, ◌<◌, List, ◌∷◌, ◌++◌, length, drop, get_or, sym, ap, ◌∙◌, append_assoc}
use Rattle.std.proofs.lemmas.List.{at_drop_more}
use Rattle.desk_ops.specs.declared.op.Symbol.{Symbol}
use Rattle.desk_units.specs.declared.Pica.{Pica}
use Rattle.desk_job.specs.Job.{Terms, symbol_width}
use Rattle.view_picture.specs.Places.{after_word, next_place, symbol_places}

-- the place of one more symbol
pub next_symbol : (terms : Terms) (pica : Pica) (end width n : ℕ) (word : List Symbol) (d : Symbol) (before after all : List ℕ) → n < length word
    → width ≡ symbol_width terms (get_or word n d) → after ≡ before ++ next_place pica end
    → before ++ symbol_places terms pica end (drop n word) ≡ all → after ++ symbol_places terms pica (end + width) (drop (n + 1) word) ≡ all
next_symbol terms pica end width n word d before after all below wide pushed so_far =
    let here : drop n word ≡ get_or word n d ∷ drop (n + 1) word = at_drop_more (λ xs. xs) word n d below in
    ap (λ l. l ++ symbol_places terms pica (end + width) (drop (n + 1) word)) pushed
    ∙ append_assoc before (next_place pica end) (symbol_places terms pica (end + width) (drop (n + 1) word))
    ∙ ap (λ w. before ++ (next_place pica end ++ symbol_places terms pica (end + w) (drop (n + 1) word))) wide
    ∙ ap (λ xs. before ++ symbol_places terms pica end xs) (sym here) ∙ so_far

-- where it ends
pub next_end : (terms : Terms) (end width n : ℕ) (word : List Symbol) (d : Symbol) (all : ℕ) → n < length word → width ≡ symbol_width terms (get_or word n d)
    → after_word terms end (drop n word) ≡ all → after_word terms (end + width) (drop (n + 1) word) ≡ all
next_end terms end width n word d all below wide so_far =
    let here : drop n word ≡ get_or word n d ∷ drop (n + 1) word = at_drop_more (λ xs. xs) word n d below in
    ap (λ w. after_word terms (end + w) (drop (n + 1) word)) wide ∙ ap (after_word terms end) (sym here) ∙ so_far
