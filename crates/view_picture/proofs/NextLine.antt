-- Lines that are written one after the other.
use Rattle.std.proofs.Common.{◌≡◌, ℕ, ◌+◌, ◌<◌, List, ◌∷◌, ◌++◌, length, drop, get_or, sym, ap, ◌∙◌, append_assoc}
use Rattle.std.proofs.lemmas.List.{at_drop_more}
use Rattle.desk_ops.specs.declared.op.Symbol.{Symbol}
use Rattle.desk_job.specs.Job.{Terms}
use Rattle.view_galley.specs.Values.{LineValues}
use Rattle.view_picture.specs.Lines.{line_text, lines_text}
use Rattle.view_picture.specs.declared.paper.Paper.{Paper}

-- one more
pub next_line : (terms : Terms) (copy : List Symbol) (paper : Paper) (lines : List LineValues) (line : LineValues) (n : ℕ) (before after all : List ℕ) → n < length lines
    → line ≡ get_or lines n line → after ≡ before ++ line_text terms copy paper line
    → before ++ lines_text terms copy paper (drop n lines) ≡ all → after ++ lines_text terms copy paper (drop (n + 1) lines) ≡ all
next_line terms copy paper lines line n before after all below is pushed so_far =
    let here : drop n lines ≡ line ∷ drop (n + 1) lines = at_drop_more (λ xs. xs) lines n line below ∙ ap (λ l. l ∷ drop (n + 1) lines) (sym is) in
    ap (λ l. l ++ lines_text terms copy paper (drop (n + 1) lines)) pushed
    ∙ append_assoc before (line_text terms copy paper line) (lines_text terms copy paper (drop (n + 1) lines))
    ∙ ap (λ ls. before ++ lines_text terms copy paper ls) (sym here) ∙ so_far
