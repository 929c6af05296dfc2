use Rattle.std.proofs.Common.{◌≡◌, ◌∙◌, ◌-◌, [], List, get_or, set, sym, ap, refl, arith}
use Rattle.std.specs.List.{remove}
use Rattle.list_shelf.specs.Shelf.{Shelved}
use Rattle.list_shelf.proofs.Shelves.{shelf-at, shelf-renew}
use Rattle.list_shelf.proofs.shelf.Shelf.remove.Goals as goal

pub items_of-requires-clause-within : goal.items_of-requires-clause-within
items_of-requires-clause-within g c =
    let s = c.self.inside in
    let v = ap (λ (z : Shelved _). z.pages) c.self.view_is in
    let pages = c.args.self.now.pages in
    let at = shelf-at g.S.Summary.sums_up s.cells.items s.heads.items s.free.items s.all c.args.self.now.pages c.args.p c.index-head.result.now v c.self.invariant.0 c.requires.within c.index-head.ensures in
    omega (arith, at.place, s.cells.ok.0)

pub items_of-requires-clause-few : goal.items_of-requires-clause-few
items_of-requires-clause-few g c =
    let s = c.self.inside in
    let v = ap (λ (z : Shelved _). z.pages) c.self.view_is in
    let pages = c.args.self.now.pages in
    let at = shelf-at g.S.Summary.sums_up s.cells.items s.heads.items s.free.items s.all c.args.self.now.pages c.args.p c.index-head.result.now v c.self.invariant.0 c.requires.within c.index-head.ensures in
    at.few

pub take-start-requires-clause-few : goal.take-start-requires-clause-few
take-start-requires-clause-few g c =
    let s = c.self.inside in
    let v = ap (λ (z : Shelved _). z.pages) c.self.view_is in
    let pages = c.args.self.now.pages in
    let at = shelf-at g.S.Summary.sums_up s.cells.items s.heads.items s.free.items s.all c.args.self.now.pages c.args.p c.index-head.result.now v c.self.invariant.0 c.requires.within c.index-head.ensures in
    at.few

pub items_of-items-requires-clause-few : goal.items_of-items-requires-clause-few
items_of-items-requires-clause-few g c =
    let s = c.self.inside in
    let v = ap (λ (z : Shelved _). z.pages) c.self.view_is in
    let pages = c.args.self.now.pages in
    let at = shelf-at g.S.Summary.sums_up s.cells.items s.heads.items s.free.items s.all c.args.self.now.pages c.args.p c.index-head.result.now v c.self.invariant.0 c.requires.within c.index-head.ensures in
    omega (arith, at.few)

pub head_of-requires : goal.head_of-requires
head_of-requires g c =
    let s = c.self.inside in
    let v = ap (λ (z : Shelved _). z.pages) c.self.view_is in
    let pages = c.args.self.now.pages in
    let at = shelf-at g.S.Summary.sums_up s.cells.items s.heads.items s.free.items s.all c.args.self.now.pages c.args.p c.index-head.result.now v c.self.invariant.0 c.requires.within c.index-head.ensures in
    omega (arith, at.few, c.items_of-items.ensures.len)

pub invariant_of-self : goal.invariant_of-self
invariant_of-self g c =
    let s = c.self.inside in
    let v = ap (λ (z : Shelved _). z.pages) c.self.view_is in
    let pages = c.args.self.now.pages in
    let at = shelf-at g.S.Summary.sums_up s.cells.items s.heads.items s.free.items s.all c.args.self.now.pages c.args.p c.index-head.result.now v c.self.invariant.0 c.requires.within c.index-head.ensures in
    let read = rw c.deref-2.ensures.value at c.items_of-items.ensures.is in
    let y = c.items_of-items.result.now in
    let put : y ≡ remove (get_or pages c.args.p []) c.args.j = read ∙ c.take-start.ensures.rest ∙ ap (λ (z : List _). remove z c.args.j) (sym at.page) in
    let done = shelf-renew g.S.Summary.sums_up s.cells.items c.take-start.new.cells.items s.heads.items s.free.items s.all pages c.args.p c.take-start.result (c.index-head.result.now.len - 1) c.index-head.result.now c.head_of.result y c.take-start.new.cells.items v c.self.invariant.0 c.requires.within c.index-head.ensures c.take-start.ensures.others refl read c.items_of-items.ensures.len c.take-start.ensures.few c.head_of.ensures.frame c.head_of.ensures.start c.head_of.ensures.len c.head_of.ensures.sums_up c.head_of.ensures.last in
    (done.0, c.self.invariant.1, omega (arith, c.self.invariant.2, c.take-start.ensures.capacity), c.self.invariant.3)

pub returns-clause-rest : goal.returns-clause-rest
returns-clause-rest g c =
    let s = c.self.inside in
    let v = ap (λ (z : Shelved _). z.pages) c.self.view_is in
    let pages = c.args.self.now.pages in
    let at = shelf-at g.S.Summary.sums_up s.cells.items s.heads.items s.free.items s.all c.args.self.now.pages c.args.p c.index-head.result.now v c.self.invariant.0 c.requires.within c.index-head.ensures in
    let read = rw c.deref-2.ensures.value at c.items_of-items.ensures.is in
    let y = c.items_of-items.result.now in
    let put : y ≡ remove (get_or pages c.args.p []) c.args.j = read ∙ c.take-start.ensures.rest ∙ ap (λ (z : List _). remove z c.args.j) (sym at.page) in
    let done = shelf-renew g.S.Summary.sums_up s.cells.items c.take-start.new.cells.items s.heads.items s.free.items s.all pages c.args.p c.take-start.result (c.index-head.result.now.len - 1) c.index-head.result.now c.head_of.result y c.take-start.new.cells.items v c.self.invariant.0 c.requires.within c.index-head.ensures c.take-start.ensures.others refl read c.items_of-items.ensures.len c.take-start.ensures.few c.head_of.ensures.frame c.head_of.ensures.start c.head_of.ensures.len c.head_of.ensures.sums_up c.head_of.ensures.last in
    done.1 ∙ ap (λ (z : List _). set pages c.args.p z) put

pub returns-clause-out : goal.returns-clause-out
returns-clause-out g c =
    let s = c.self.inside in
    let v = ap (λ (z : Shelved _). z.pages) c.self.view_is in
    let pages = c.args.self.now.pages in
    let at = shelf-at g.S.Summary.sums_up s.cells.items s.heads.items s.free.items s.all c.args.self.now.pages c.args.p c.index-head.result.now v c.self.invariant.0 c.requires.within c.index-head.ensures in
    let old = rw c.deref.ensures.value at c.items_of.ensures.is ∙ sym at.page in
    c.index-items_of-j.is ∙ ap (λ (z : List _). get_or z c.args.j c.index-items_of-j.result) old
