use Rattle.std.proofs.Common.{ap, arith}
use Rattle.list_shelf.specs.Shelf.{Shelved}
use Rattle.list_shelf.proofs.Shelves.{shelf-at, shelf-close}
use Rattle.list_shelf.proofs.shelf.Shelf.close.Goals as goal

pub push_reserved-requires : goal.push_reserved-requires
push_reserved-requires g c =
    let s = c.self.inside in
    let v = ap (λ (z : Shelved _). z.pages) c.self.view_is in
    let free = ap (λ (z : Shelved _). z.free) c.self.view_is in
    let pages = c.args.self.now.pages in
    let at = shelf-at g.S.Summary.sums_up s.cells.items s.heads.items s.free.items s.all pages c.args.p c.remove-head.result v c.self.invariant.0 c.requires c.remove-head.ensures.value in
    omega (arith, at.within, c.self.invariant.0.most, c.self.invariant.3, s.free.ok.0)

pub invariant_of-self : goal.invariant_of-self
invariant_of-self g c =
    let s = c.self.inside in
    let v = ap (λ (z : Shelved _). z.pages) c.self.view_is in
    let free = ap (λ (z : Shelved _). z.free) c.self.view_is in
    let pages = c.args.self.now.pages in
    let done = shelf-close g.S.Summary.sums_up s.cells.items s.heads.items s.free.items s.all pages c.args.p c.remove-head.result v c.self.invariant.0 c.requires c.remove-head.ensures.value in
    rw (c.remove-head.ensures.items, c.push_reserved.ensures.items) (done.0, omega (arith, c.self.invariant.1, c.remove-head.ensures.capacity), c.self.invariant.2, omega (arith, c.self.invariant.3, c.push_reserved.ensures.capacity))

pub returns-clause-rest : goal.returns-clause-rest
returns-clause-rest g c =
    let s = c.self.inside in
    let v = ap (λ (z : Shelved _). z.pages) c.self.view_is in
    let free = ap (λ (z : Shelved _). z.free) c.self.view_is in
    let pages = c.args.self.now.pages in
    let done = shelf-close g.S.Summary.sums_up s.cells.items s.heads.items s.free.items s.all pages c.args.p c.remove-head.result v c.self.invariant.0 c.requires c.remove-head.ensures.value in
    rw (c.remove-head.ensures.items, c.push_reserved.ensures.items) done.1
