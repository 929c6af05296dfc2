use Rattle.std.proofs.Common.{ap}
use Rattle.list_shelf.specs.Shelf.{Shelved}
use Rattle.list_shelf.proofs.Shelves.{shelf-at}
use Rattle.list_shelf.proofs.shelf.Shelf.summary.Goals as goal

pub returns : goal.returns
returns g c =
    let s = c.self.inside in
    let v = ap (λ (z : Shelved _). z.pages) c.self.view_is in
    let at = shelf-at g.S.Summary.sums_up s.cells.items s.heads.items s.free.items s.all c.args.self.now.pages c.args.p c.index.result.now v c.self.invariant.0 c.requires c.index.ensures in
    at.summed
