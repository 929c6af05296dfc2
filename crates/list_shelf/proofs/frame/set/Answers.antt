use Rattle.std.proofs.Common.{◌≡◌, ◌∙◌, length, set, refl, length-set, arith}
use Rattle.list_shelf.proofs.Frames.{written, written-others}
use Rattle.list_shelf.proofs.frame.set.Goals as goal

pub returns-clause-set : goal.returns-clause-set
returns-clause-set g c =
    let cells = c.args.cells.now in
    let part = c.slice_mut.result.now in
    let y = set part c.args.j c.args.x in
    let n : length y ≡ 256 = length-set part c.args.j c.args.x ∙ omega (arith, c.slice_mut.ensures.len) in
    written cells.items c.args.f cells.len part y (λ z. z) (λ z. set z c.args.j c.args.x) cells.ok.0 c.requires.frame n c.slice_mut.ensures.value refl

pub returns-clause-others : goal.returns-clause-others
returns-clause-others g c =
    let cells = c.args.cells.now in
    let part = c.slice_mut.result.now in
    let y = set part c.args.j c.args.x in
    let n : length y ≡ 256 = length-set part c.args.j c.args.x ∙ omega (arith, c.slice_mut.ensures.len) in
    written-others cells.items c.args.f cells.len y cells.ok.0 c.requires.frame n
