use Rattle.std.proofs.Common.{◌∙◌, sym, ap, arith}
use Rattle.list_shelf.specs.Shelf.{Shelved}
use Rattle.list_shelf.proofs.Shelves.{shelf-at}
use Rattle.list_shelf.proofs.shelf.Shelf.items.Goals as goal

pub items_of-requires-clause-within : goal.items_of-requires-clause-within
items_of-requires-clause-within g c =
    let s = c.self.inside in
    let v = ap (λ (z : Shelved _). z.pages) c.self.view_is in
    let at = shelf-at g.S.Summary.sums_up s.cells.items s.heads.items s.free.items s.all c.args.self.now.pages c.args.p c.index-head.result.now v c.self.invariant.0 c.requires c.index-head.ensures in
    omega (arith, at.place, s.cells.ok.0)

pub items_of-requires-clause-few : goal.items_of-requires-clause-few
items_of-requires-clause-few g c =
    let s = c.self.inside in
    let v = ap (λ (z : Shelved _). z.pages) c.self.view_is in
    let at = shelf-at g.S.Summary.sums_up s.cells.items s.heads.items s.free.items s.all c.args.self.now.pages c.args.p c.index-head.result.now v c.self.invariant.0 c.requires c.index-head.ensures in
    at.few

pub returns : goal.returns
returns g c =
    let s = c.self.inside in
    let v = ap (λ (z : Shelved _). z.pages) c.self.view_is in
    let at = shelf-at g.S.Summary.sums_up s.cells.items s.heads.items s.free.items s.all c.args.self.now.pages c.args.p c.index-head.result.now v c.self.invariant.0 c.requires c.index-head.ensures in
    rw c.deref.ensures.value at c.items_of.ensures.is ∙ sym at.page
