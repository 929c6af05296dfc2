use Rattle.std.proofs.Common.{ap, arith}
use Rattle.list_shelf.specs.Shelf.{Shelved}
use Rattle.list_shelf.proofs.Shelves.{shelf-at}
use Rattle.list_shelf.proofs.shelf.Shelf.len_of.Goals as goal

pub returns-clause-len : goal.returns-clause-len
returns-clause-len g c =
    let s = c.self.inside in
    let v = ap (λ (z : Shelved _). z.pages) c.self.view_is in
    let at = shelf-at g.S.Summary.sums_up s.cells.items s.heads.items s.free.items s.all c.args.self.now.pages c.args.p c.index.result.now v c.self.invariant.0 c.requires c.index.ensures in
    at.size

pub returns-clause-most : goal.returns-clause-most
returns-clause-most g c =
    let s = c.self.inside in
    let v = ap (λ (z : Shelved _). z.pages) c.self.view_is in
    let at = shelf-at g.S.Summary.sums_up s.cells.items s.heads.items s.free.items s.all c.args.self.now.pages c.args.p c.index.result.now v c.self.invariant.0 c.requires c.index.ensures in
    omega (arith, at.few)
