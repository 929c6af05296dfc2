-- Pages that are written one after the other, and lines on a page.
use Rattle.std.proofs.Common.{◌≡◌, ℕ, suc, ◌+◌, ◌-◌, ◌*◌, ◌<◌, ◌≤◌, List, ◌∷◌, ◌++◌, length, drop, get_or, sym, ap, ◌∙◌, append_assoc, arith}
use Rattle.std.proofs.lemmas.List.{at_drop_more}
use Rattle.std.specs.Int.{div_ceil}
use Rattle.desk_ops.specs.declared.op.Symbol.{Symbol}
use Rattle.desk_job.specs.Job.{Terms}
use Rattle.view_galley.specs.Values.{GalleyValues, LineValues}
use Rattle.view_picture.specs.Paper.{foot}
use Rattle.view_picture.specs.declared.paper.Paper.{Paper}
use Rattle.view_pages.specs.Pages.{linked_line, lines_below, page_text, pages_from}
use Rattle.view_pages.specs.declared.layouts.Layout.{Layout}

-- one more page
pub next_page : (copy : List Symbol) (galley : GalleyValues) (layout : Layout) (heading : List ℕ) (count n : ℕ) (before after all : List ℕ) → n < count
    → after ≡ before ++ page_text copy galley layout heading n
    → before ++ pages_from copy galley layout heading n (count - n) ≡ all → after ++ pages_from copy galley layout heading (n + 1) (count - (n + 1)) ≡ all
next_page copy galley layout heading count n before after all below pushed so_far =
    let rest = pages_from copy galley layout heading (n + 1) (count - (n + 1)) in
    let e : count - n ≡ suc (count - (n + 1)) = omega arith in
    ap (λ l. l ++ rest) pushed ∙ append_assoc before (page_text copy galley layout heading n) rest
    ∙ ap (λ k. before ++ pages_from copy galley layout heading n k) (sym e) ∙ so_far

-- one more line
pub next_line : (terms : Terms) (copy : List Symbol) (paper : Paper) (lines : List LineValues) (line : LineValues) (n y : ℕ) (before after all : List ℕ) → n < length lines
    → line ≡ get_or lines n line → y ≡ foot paper (n + 1) → after ≡ before ++ linked_line terms copy paper y line
    → before ++ lines_below terms copy paper n (drop n lines) ≡ all → after ++ lines_below terms copy paper (n + 1) (drop (n + 1) lines) ≡ all
next_line terms copy paper lines line n y before after all below is stands pushed so_far =
    let here : drop n lines ≡ line ∷ drop (n + 1) lines = at_drop_more (λ xs. xs) lines n line below ∙ ap (λ l. l ∷ drop (n + 1) lines) (sym is) in
    let rest = lines_below terms copy paper (n + 1) (drop (n + 1) lines) in
    ap (λ l. l ++ rest) pushed ∙ append_assoc before (linked_line terms copy paper y line) rest
    ∙ ap (λ z. before ++ (linked_line terms copy paper z line ++ rest)) stands
    ∙ ap (λ ls. before ++ lines_below terms copy paper n ls) (sym here) ∙ so_far
