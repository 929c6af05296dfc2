-- Rules that are written one after the other.
use Rattle.std.proofs.Common.{◌≡◌, ℕ, ◌+◌, ◌<◌, List, ◌∷◌, ◌++◌, length, drop, get_or, sym, ap, ◌∙◌, append_assoc, Bool, true}
use Rattle.std.proofs.lemmas.List.{at_drop_more}
use Rattle.desk_ops.specs.declared.op.Symbol.{Symbol}
use Rattle.desk_job.specs.Job.{Terms, symbol_width}
use Rattle.view_pages.specs.Rules.{symbol_rule, symbol_rules}
use Rattle.view_pages.specs.declared.rules.Pen.{Pen}

-- that of one more symbol
pub next_rule : (pen : Pen) (terms : Terms) (inner : Bool) (end width n : ℕ) (word : List Symbol) (d : Symbol) (before after all : List ℕ) → n < length word
    → width ≡ symbol_width terms (get_or word n d) → after ≡ before ++ symbol_rule pen.kind pen terms end inner (get_or word n d)
    → before ++ symbol_rules pen terms end inner (drop n word) ≡ all → after ++ symbol_rules pen terms (end + width) true (drop (n + 1) word) ≡ all
next_rule pen terms inner end width n word d before after all below wide pushed so_far =
    let here : drop n word ≡ get_or word n d ∷ drop (n + 1) word = at_drop_more (λ xs. xs) word n d below in
    ap (λ l. l ++ symbol_rules pen terms (end + width) true (drop (n + 1) word)) pushed
    ∙ append_assoc before (symbol_rule pen.kind pen terms end inner (get_or word n d)) (symbol_rules pen terms (end + width) true (drop (n + 1) word))
    ∙ ap (λ w. before ++ (symbol_rule pen.kind pen terms end inner (get_or word n d) ++ symbol_rules pen terms (end + w) true (drop (n + 1) word))) wide
    ∙ ap (λ xs. before ++ symbol_rules pen terms end inner xs) (sym here) ∙ so_far
