use Rattle.std.proofs.Common.{◌≡◌, ◌∙◌, ◌+◌, ◌++◌, [], List, length, get_or, set, sym, ap, refl, arith}
use Rattle.list_shelf.specs.Shelf.{Shelved, frame_at}
use Rattle.list_shelf.proofs.Frames.{frame-length, behind-start, written-on}
use Rattle.list_shelf.proofs.Shelves.{shelf-at, shelf-renew}
use Rattle.list_shelf.proofs.shelf.Shelf.extend.Goals as goal

pub append-requires-clause-frame : goal.append-requires-clause-frame
append-requires-clause-frame g c =
    let s = c.self.inside in
    let v = ap (λ (z : Shelved _). z.pages) c.self.view_is in
    let pages = c.args.self.now.pages in
    let at = shelf-at g.S.Summary.sums_up s.cells.items s.heads.items s.free.items s.all c.args.self.now.pages c.args.p c.index-head.result.now v c.self.invariant.0 c.requires.within c.index-head.ensures in
    omega (arith, at.place, s.cells.ok.0)

pub append-requires-clause-few : goal.append-requires-clause-few
append-requires-clause-few g c =
    let s = c.self.inside in
    let v = ap (λ (z : Shelved _). z.pages) c.self.view_is in
    let pages = c.args.self.now.pages in
    let at = shelf-at g.S.Summary.sums_up s.cells.items s.heads.items s.free.items s.all c.args.self.now.pages c.args.p c.index-head.result.now v c.self.invariant.0 c.requires.within c.index-head.ensures in
    omega (arith, at.size, c.requires.room)

pub overflow_add-many : goal.overflow_add-many
overflow_add-many g c =
    let s = c.self.inside in
    let v = ap (λ (z : Shelved _). z.pages) c.self.view_is in
    let pages = c.args.self.now.pages in
    let at = shelf-at g.S.Summary.sums_up s.cells.items s.heads.items s.free.items s.all c.args.self.now.pages c.args.p c.index-head.result.now v c.self.invariant.0 c.requires.within c.index-head.ensures in
    omega (arith, at.size, c.requires.room)

pub items_of-whole-requires-clause-within : goal.items_of-whole-requires-clause-within
items_of-whole-requires-clause-within g c =
    let s = c.self.inside in
    let v = ap (λ (z : Shelved _). z.pages) c.self.view_is in
    let pages = c.args.self.now.pages in
    let at = shelf-at g.S.Summary.sums_up s.cells.items s.heads.items s.free.items s.all c.args.self.now.pages c.args.p c.index-head.result.now v c.self.invariant.0 c.requires.within c.index-head.ensures in
    omega (arith, at.place, s.cells.ok.0, c.deref.ensures.len, c.settle-start.ensures.len, c.append.ensures.len, c.append.new.cells.ok.0)

pub items_of-whole-requires-clause-few : goal.items_of-whole-requires-clause-few
items_of-whole-requires-clause-few g c =
    let s = c.self.inside in
    let v = ap (λ (z : Shelved _). z.pages) c.self.view_is in
    let pages = c.args.self.now.pages in
    let at = shelf-at g.S.Summary.sums_up s.cells.items s.heads.items s.free.items s.all c.args.self.now.pages c.args.p c.index-head.result.now v c.self.invariant.0 c.requires.within c.index-head.ensures in
    omega (arith, at.size, c.requires.room)

pub head_of-requires : goal.head_of-requires
head_of-requires g c =
    let s = c.self.inside in
    let v = ap (λ (z : Shelved _). z.pages) c.self.view_is in
    let pages = c.args.self.now.pages in
    let at = shelf-at g.S.Summary.sums_up s.cells.items s.heads.items s.free.items s.all c.args.self.now.pages c.args.p c.index-head.result.now v c.self.invariant.0 c.requires.within c.index-head.ensures in
    omega (arith, at.size, c.requires.room, c.items_of-whole.ensures.len)

pub invariant_of-self : goal.invariant_of-self
invariant_of-self g c =
    let s = c.self.inside in
    let v = ap (λ (z : Shelved _). z.pages) c.self.view_is in
    let pages = c.args.self.now.pages in
    let at = shelf-at g.S.Summary.sums_up s.cells.items s.heads.items s.free.items s.all c.args.self.now.pages c.args.p c.index-head.result.now v c.self.invariant.0 c.requires.within c.index-head.ensures in
    let read = rw c.deref.ensures.value at c.items_of-whole.ensures.is in
    let y = c.items_of-whole.result.now in
    let f = c.index-head.result.now.frame in
    let long = frame-length c.settle-start.new.cells.items f (omega (arith, at.place, s.cells.ok.0, c.settle-start.ensures.len, c.settle-start.new.cells.ok.0)) in
    let behind = behind-start (frame_at c.settle-start.new.cells.items f) (frame_at c.append.new.cells.items f) c.args.items.now c.settle-start.result c.index-head.result.now.len (length c.args.items.now) (omega (arith, long, c.settle-start.ensures.few)) c.append.ensures.put in
    let put : y ≡ get_or pages c.args.p [] ++ c.args.items.now = read ∙ behind ∙ ap (λ (z : List _). z ++ c.args.items.now) (c.settle-start.ensures.same ∙ sym at.page) in
    let done = shelf-renew g.S.Summary.sums_up s.cells.items c.append.new.cells.items s.heads.items s.free.items s.all pages c.args.p c.settle-start.result (c.index-head.result.now.len + length c.args.items.now) c.index-head.result.now c.head_of.result y c.append.new.cells.items v c.self.invariant.0 c.requires.within c.index-head.ensures (written-on s.cells.items c.settle-start.new.cells.items c.append.new.cells.items f c.settle-start.ensures.others c.append.ensures.others) refl read c.items_of-whole.ensures.len c.settle-start.ensures.room c.head_of.ensures.frame c.head_of.ensures.start c.head_of.ensures.len c.head_of.ensures.sums_up c.head_of.ensures.last in
    (done.0, c.self.invariant.1, omega (arith, c.self.invariant.2, c.settle-start.ensures.capacity, c.append.ensures.capacity), c.self.invariant.3)

pub returns-clause-put : goal.returns-clause-put
returns-clause-put g c =
    let s = c.self.inside in
    let v = ap (λ (z : Shelved _). z.pages) c.self.view_is in
    let pages = c.args.self.now.pages in
    let at = shelf-at g.S.Summary.sums_up s.cells.items s.heads.items s.free.items s.all c.args.self.now.pages c.args.p c.index-head.result.now v c.self.invariant.0 c.requires.within c.index-head.ensures in
    let read = rw c.deref.ensures.value at c.items_of-whole.ensures.is in
    let y = c.items_of-whole.result.now in
    let f = c.index-head.result.now.frame in
    let long = frame-length c.settle-start.new.cells.items f (omega (arith, at.place, s.cells.ok.0, c.settle-start.ensures.len, c.settle-start.new.cells.ok.0)) in
    let behind = behind-start (frame_at c.settle-start.new.cells.items f) (frame_at c.append.new.cells.items f) c.args.items.now c.settle-start.result c.index-head.result.now.len (length c.args.items.now) (omega (arith, long, c.settle-start.ensures.few)) c.append.ensures.put in
    let put : y ≡ get_or pages c.args.p [] ++ c.args.items.now = read ∙ behind ∙ ap (λ (z : List _). z ++ c.args.items.now) (c.settle-start.ensures.same ∙ sym at.page) in
    let done = shelf-renew g.S.Summary.sums_up s.cells.items c.append.new.cells.items s.heads.items s.free.items s.all pages c.args.p c.settle-start.result (c.index-head.result.now.len + length c.args.items.now) c.index-head.result.now c.head_of.result y c.append.new.cells.items v c.self.invariant.0 c.requires.within c.index-head.ensures (written-on s.cells.items c.settle-start.new.cells.items c.append.new.cells.items f c.settle-start.ensures.others c.append.ensures.others) refl read c.items_of-whole.ensures.len c.settle-start.ensures.room c.head_of.ensures.frame c.head_of.ensures.start c.head_of.ensures.len c.head_of.ensures.sums_up c.head_of.ensures.last in
    done.1 ∙ ap (λ (z : List _). set pages c.args.p z) put

pub settle-start-requires-clause-frame : goal.settle-start-requires-clause-frame
settle-start-requires-clause-frame g c =
    let s = c.self.inside in
    let v = ap (λ (z : Shelved _). z.pages) c.self.view_is in
    let at = shelf-at g.S.Summary.sums_up s.cells.items s.heads.items s.free.items s.all c.args.self.now.pages c.args.p c.index-head.result.now v c.self.invariant.0 c.requires.within c.index-head.ensures in
    omega (arith, at.place, s.cells.ok.0)

pub settle-start-requires-clause-few : goal.settle-start-requires-clause-few
settle-start-requires-clause-few g c =
    let s = c.self.inside in
    let v = ap (λ (z : Shelved _). z.pages) c.self.view_is in
    let at = shelf-at g.S.Summary.sums_up s.cells.items s.heads.items s.free.items s.all c.args.self.now.pages c.args.p c.index-head.result.now v c.self.invariant.0 c.requires.within c.index-head.ensures in
    at.few

pub settle-start-requires-clause-most : goal.settle-start-requires-clause-most
settle-start-requires-clause-most g c =
    let s = c.self.inside in
    let v = ap (λ (z : Shelved _). z.pages) c.self.view_is in
    let at = shelf-at g.S.Summary.sums_up s.cells.items s.heads.items s.free.items s.all c.args.self.now.pages c.args.p c.index-head.result.now v c.self.invariant.0 c.requires.within c.index-head.ensures in
    omega (arith, at.size, c.requires.room)
