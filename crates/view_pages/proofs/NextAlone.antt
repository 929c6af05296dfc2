-- Pages of their own that are made one after the other.
use Rattle.std.proofs.Common.{◌≡◌, ℕ, suc, ◌+◌, ◌-◌, ◌<◌, List, [], ◌∷◌, ◌++◌, sym, ap, ◌∙◌, append_assoc, arith}
use Rattle.desk_ops.specs.declared.op.Symbol.{Symbol}
use Rattle.view_galley.specs.Values.{GalleyValues}
use Rattle.view_pages.specs.Alone.{alone_from, page_alone}
use Rattle.view_pages.specs.declared.layouts.Layout.{Layout}

-- one more page
pub next_alone : (copy : List Symbol) (galley : GalleyValues) (layout : Layout) (heading : List ℕ) (count n : ℕ) (before after all : List (List ℕ)) → n < count
    → after ≡ before ++ page_alone copy galley layout heading n ∷ []
    → before ++ alone_from copy galley layout heading n (count - n) ≡ all → after ++ alone_from copy galley layout heading (n + 1) (count - (n + 1)) ≡ all
next_alone copy galley layout heading count n before after all below pushed so_far =
    let rest = alone_from copy galley layout heading (n + 1) (count - (n + 1)) in
    let e : count - n ≡ suc (count - (n + 1)) = omega arith in
    ap (λ l. l ++ rest) pushed ∙ append_assoc before (page_alone copy galley layout heading n ∷ []) rest
    ∙ ap (λ k. before ++ alone_from copy galley layout heading n k) (sym e) ∙ so_far
