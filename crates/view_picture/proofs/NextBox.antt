-- Boxes that are written one after the other.
use Rattle.std.proofs.Common.{◌≡◌, ℕ, suc, ◌+◌, ◌-◌, ◌<◌, List, ◌++◌, sym, ap, ◌∙◌, append_assoc, arith}
use Rattle.view_picture.specs.Boxes.{box_text, boxes_text}
use Rattle.view_picture.specs.declared.paper.Paper.{Paper}

-- one more
pub next_box : (paper : Paper) (y width from count n : ℕ) (out before after all : List ℕ) → n < count → after ≡ before ++ box_text paper y from (from + width)
    → before ++ boxes_text paper y width from (count - n) ≡ out ++ all → after ++ boxes_text paper y width (from + width) (count - (n + 1)) ≡ out ++ all
next_box paper y width from count n out before after all below pushed so_far =
    let rest = boxes_text paper y width (from + width) (count - (n + 1)) in
    let e : count - n ≡ suc (count - (n + 1)) = omega arith in
    ap (λ l. l ++ rest) pushed ∙ append_assoc before (box_text paper y from (from + width)) rest
    ∙ ap (λ k. before ++ boxes_text paper y width from k) (sym e) ∙ so_far
