use Rattle.std.proofs.Common.{◌∙◌, ◌+◌, ◌-◌, List, length, drop, set, ap, arith}
use Rattle.list_shelf.specs.Shelf.{Shelved, frame_at}
use Rattle.list_shelf.proofs.Frames.{part-kept, written-none}
use Rattle.list_shelf.proofs.Shelves.{shelf-at, shelf-renew, first-of}
use Rattle.list_shelf.proofs.shelf.Shelf.keep.Goals as goal

pub overflow_add-start : goal.overflow_add-start
overflow_add-start g c =
    let s = c.self.inside in
    let v = ap (λ (z : Shelved _). z.pages) c.self.view_is in
    let at = shelf-at g.S.Summary.sums_up s.cells.items s.heads.items s.free.items s.all c.args.self.now.pages c.args.p c.index-head.result.now v c.self.invariant.0 c.requires.within c.index-head.ensures in
    omega (arith, at.few, at.size, c.requires.inside, c.requires.order)

pub items_of-items-requires-clause-within : goal.items_of-items-requires-clause-within
items_of-items-requires-clause-within g c =
    let s = c.self.inside in
    let v = ap (λ (z : Shelved _). z.pages) c.self.view_is in
    let at = shelf-at g.S.Summary.sums_up s.cells.items s.heads.items s.free.items s.all c.args.self.now.pages c.args.p c.index-head.result.now v c.self.invariant.0 c.requires.within c.index-head.ensures in
    omega (arith, at.place, s.cells.ok.0, c.deref.ensures.len)

pub items_of-items-requires-clause-few : goal.items_of-items-requires-clause-few
items_of-items-requires-clause-few g c =
    let s = c.self.inside in
    let v = ap (λ (z : Shelved _). z.pages) c.self.view_is in
    let at = shelf-at g.S.Summary.sums_up s.cells.items s.heads.items s.free.items s.all c.args.self.now.pages c.args.p c.index-head.result.now v c.self.invariant.0 c.requires.within c.index-head.ensures in
    omega (arith, at.few, at.size, c.requires.inside, c.requires.order)

pub head_of-requires : goal.head_of-requires
head_of-requires g c =
    let s = c.self.inside in
    let v = ap (λ (z : Shelved _). z.pages) c.self.view_is in
    let at = shelf-at g.S.Summary.sums_up s.cells.items s.heads.items s.free.items s.all c.args.self.now.pages c.args.p c.index-head.result.now v c.self.invariant.0 c.requires.within c.index-head.ensures in
    omega (arith, at.few, at.size, c.requires.inside, c.items_of-items.ensures.len)

pub invariant_of-self : goal.invariant_of-self
invariant_of-self g c =
    let s = c.self.inside in
    let v = ap (λ (z : Shelved _). z.pages) c.self.view_is in
    let head = c.index-head.result.now in
    let at = shelf-at g.S.Summary.sums_up s.cells.items s.heads.items s.free.items s.all c.args.self.now.pages c.args.p head v c.self.invariant.0 c.requires.within c.index-head.ensures in
    let done = shelf-renew g.S.Summary.sums_up s.cells.items s.cells.items s.heads.items s.free.items s.all c.args.self.now.pages c.args.p (head.start + c.args.from) (c.args.to - c.args.from) head c.head_of.result c.items_of-items.result.now c.deref.result.now v c.self.invariant.0 c.requires.within c.index-head.ensures (written-none s.cells.items head.frame) c.deref.ensures.value c.items_of-items.ensures.is c.items_of-items.ensures.len (omega (arith, at.few, at.size, c.requires.inside, c.requires.order)) c.head_of.ensures.frame c.head_of.ensures.start c.head_of.ensures.len c.head_of.ensures.sums_up c.head_of.ensures.last in
    (done.0, c.self.invariant.1, c.self.invariant.2, c.self.invariant.3)

pub returns-clause-kept : goal.returns-clause-kept
returns-clause-kept g c =
    let s = c.self.inside in
    let v = ap (λ (z : Shelved _). z.pages) c.self.view_is in
    let head = c.index-head.result.now in
    let at = shelf-at g.S.Summary.sums_up s.cells.items s.heads.items s.free.items s.all c.args.self.now.pages c.args.p head v c.self.invariant.0 c.requires.within c.index-head.ensures in
    let done = shelf-renew g.S.Summary.sums_up s.cells.items s.cells.items s.heads.items s.free.items s.all c.args.self.now.pages c.args.p (head.start + c.args.from) (c.args.to - c.args.from) head c.head_of.result c.items_of-items.result.now c.deref.result.now v c.self.invariant.0 c.requires.within c.index-head.ensures (written-none s.cells.items head.frame) c.deref.ensures.value c.items_of-items.ensures.is c.items_of-items.ensures.len (omega (arith, at.few, at.size, c.requires.inside, c.requires.order)) c.head_of.ensures.frame c.head_of.ensures.start c.head_of.ensures.len c.head_of.ensures.sums_up c.head_of.ensures.last in
    let read = rw c.deref.ensures.value at c.items_of-items.ensures.is in
    done.1 ∙ ap (λ (z : List _). set c.args.self.now.pages c.args.p z)
    (read ∙ part-kept (frame_at s.cells.items head.frame) head.start c.args.from c.args.to c.requires.order
    ∙ ap (λ (z : List _). drop c.args.from z) (first-of s.cells.items c.args.self.now.pages s.heads.items (length s.heads.items + length s.free.items) c.args.p c.args.to head at (omega (arith, at.size, c.requires.inside))))
