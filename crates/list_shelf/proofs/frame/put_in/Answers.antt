use Rattle.std.proofs.Common.{◌≡◌, ◌∙◌, ◌-◌, ◌+◌, List, ℕ, length, take, drop, drop-drop, ap, arith}
use Rattle.std.specs.List.{insert}
use Rattle.std.proofs.lemmas.List.{take_rest}
use Rattle.list_shelf.proofs.Frames.{lent-behind}
use Rattle.list_shelf.proofs.frame.put_in.Goals as goal

pub returns-then-s-n-eq-FULL-clause-put : goal.returns-then-s-n-eq-FULL-clause-put
returns-then-s-n-eq-FULL-clause-put g c =
    let frame = c.args.frame.now in
    let a : ℕ = c.args.s - 1 in
    let next : a + 1 ≡ c.args.s = omega (arith, c.if-s-gt0.true) in
    let back = lent-behind frame c.put_left.new.part a (length frame - a) (omega (arith, c.requires.few, c.requires.wide)) in
    let part : drop 1 (take (length frame - a) (drop a frame)) ≡ drop c.args.s frame = ap (λ (z : List _). drop 1 z) (take_rest frame a) ∙ drop-drop 1 a frame ∙ ap (λ (k : ℕ). drop k frame) next in
    ap (λ (z : List _). take (c.args.n + 1) z) back ∙ c.put_left.ensures.put ∙ ap (λ (z : List _). insert (take c.args.n z) c.args.j c.args.x) part
