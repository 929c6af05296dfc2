use Rattle.std.proofs.Common.{◌∙◌, ◌-◌, List, length, take, drop, drop-drop, sym, ap, arith}
use Rattle.std.specs.List.{remove}
use Rattle.std.proofs.lemmas.List.{take_rest}
use borrow.Rule.Slice.PartMut.{put_mid}
use Rattle.list_shelf.proofs.Frames.{lent-behind}
use Rattle.list_shelf.proofs.frame.take_in.Goals as goal

pub returns-then-j-n-clause-rest : goal.returns-then-j-n-clause-rest
returns-then-j-n-clause-rest g c =
    let frame = c.args.frame.now in
    let n = length frame - c.args.s in
    let back = lent-behind frame c.take_left.new.part c.args.s n (omega (arith, c.requires.few, c.requires.wide)) in
    ap (λ (z : List _). take (c.args.n - 1) z) (sym (drop-drop 1 c.args.s (put_mid c.args.s n frame c.take_left.new.part)) ∙ ap (λ (z : List _). drop 1 z) back)
    ∙ c.take_left.ensures.rest ∙ ap (λ (z : List _). remove (take c.args.n z) c.args.j) (take_rest frame c.args.s)
