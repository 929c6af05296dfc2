use Rattle.std.proofs.Common.{◌∙◌, List, take, drop, replicate, ap, refl, arith}
use Rattle.std.specs.List.{insert}
use Rattle.list_shelf.specs.Shelf.{Shelved, frame_at}
use Rattle.list_shelf.proofs.Frames.{frame-length}
use Rattle.list_shelf.proofs.Shelves.{shelf-open, shelf-open-behind, free-place, one-set, one-behind}
use Rattle.list_shelf.proofs.shelf.Shelf.open.Goals as goal

pub invariant_of-self : goal.invariant_of-self
invariant_of-self g c =
    let s = c.self.inside in
    let v = ap (λ (z : Shelved _). z.pages) c.self.view_is in
    let free = ap (λ (z : Shelved _). z.free) c.self.view_is in
    let pages = c.args.self.now.pages in
    let read = rw c.deref.ensures.value at c.items_of-items.ensures.is in
    let done = shelf-open-behind g.S.Summary.sums_up s.cells.items c.lay.new.cells.items (replicate 256 c.args.x) s.heads.items s.free.items s.all pages c.args.p c.len-f.result c.first_start-start.result c.head_of.result c.items_of-items.result.now v c.self.invariant.0 c.requires.within (omega (arith, free, c.requires.free)) (omega (arith, s.free.ok.0, c.len.ensures, c.if-len-eq0.true)) (omega (arith, s.heads.ok.0, c.len-f.ensures)) c.lay.ensures.items refl c.first_start-start.ensures c.head_of.ensures.frame c.head_of.ensures.start c.head_of.ensures.len c.items_of-items.ensures.len read c.head_of.ensures.sums_up c.head_of.ensures.last in
    rw c.insert_reserved.ensures.items (done.0, omega (arith, c.self.invariant.1, c.insert_reserved.ensures.capacity), omega (arith, c.self.invariant.2, c.lay.ensures.capacity), c.self.invariant.3)

pub returns-then-len-eq0-clause-put : goal.returns-then-len-eq0-clause-put
returns-then-len-eq0-clause-put g c =
    let s = c.self.inside in
    let v = ap (λ (z : Shelved _). z.pages) c.self.view_is in
    let free = ap (λ (z : Shelved _). z.free) c.self.view_is in
    let pages = c.args.self.now.pages in
    let read = rw c.deref.ensures.value at c.items_of-items.ensures.is in
    let done = shelf-open-behind g.S.Summary.sums_up s.cells.items c.lay.new.cells.items (replicate 256 c.args.x) s.heads.items s.free.items s.all pages c.args.p c.len-f.result c.first_start-start.result c.head_of.result c.items_of-items.result.now v c.self.invariant.0 c.requires.within (omega (arith, free, c.requires.free)) (omega (arith, s.free.ok.0, c.len.ensures, c.if-len-eq0.true)) (omega (arith, s.heads.ok.0, c.len-f.ensures)) c.lay.ensures.items refl c.first_start-start.ensures c.head_of.ensures.frame c.head_of.ensures.start c.head_of.ensures.len c.items_of-items.ensures.len read c.head_of.ensures.sums_up c.head_of.ensures.last in
    let one = read ∙ one-behind s.cells.items c.lay.new.cells.items c.len-f.result c.first_start-start.result c.args.x c.lay.ensures.items (omega (arith, s.heads.ok.0, c.len-f.ensures, c.self.invariant.0.laid, s.free.ok.0, c.len.ensures, c.if-len-eq0.true)) c.first_start-start.ensures in
    rw c.insert_reserved.ensures.items (done.1 ∙ ap (λ (z : List _). insert pages c.args.p z) one)

pub invariant_of-self-2 : goal.invariant_of-self-2
invariant_of-self-2 g c =
    let s = c.self.inside in
    let v = ap (λ (z : Shelved _). z.pages) c.self.view_is in
    let free = ap (λ (z : Shelved _). z.free) c.self.view_is in
    let pages = c.args.self.now.pages in
    let read = rw c.deref-2.ensures.value at c.items_of-items-2.ensures.is in
    let done = shelf-open g.S.Summary.sums_up s.cells.items c.set.new.cells.items s.heads.items s.free.items c.take_last-f.new.self.items s.all pages c.args.p c.take_last-f.result c.first_start-start.result c.head_of-2.result c.items_of-items-2.result.now v c.self.invariant.0 c.requires.within (omega (arith, free, c.requires.free)) c.take_last-f.ensures.items c.set.ensures.others c.first_start-start.ensures c.head_of-2.ensures.frame c.head_of-2.ensures.start c.head_of-2.ensures.len c.items_of-items-2.ensures.len read c.head_of-2.ensures.sums_up c.head_of-2.ensures.last in
    rw c.insert_reserved-2.ensures.items (done.0, omega (arith, c.self.invariant.1, c.insert_reserved-2.ensures.capacity), omega (arith, c.self.invariant.2, c.set.ensures.capacity), omega (arith, c.self.invariant.3, c.take_last-f.ensures.capacity))

pub returns-clause-put : goal.returns-clause-put
returns-clause-put g c =
    let s = c.self.inside in
    let v = ap (λ (z : Shelved _). z.pages) c.self.view_is in
    let free = ap (λ (z : Shelved _). z.free) c.self.view_is in
    let pages = c.args.self.now.pages in
    let read = rw c.deref-2.ensures.value at c.items_of-items-2.ensures.is in
    let done = shelf-open g.S.Summary.sums_up s.cells.items c.set.new.cells.items s.heads.items s.free.items c.take_last-f.new.self.items s.all pages c.args.p c.take_last-f.result c.first_start-start.result c.head_of-2.result c.items_of-items-2.result.now v c.self.invariant.0 c.requires.within (omega (arith, free, c.requires.free)) c.take_last-f.ensures.items c.set.ensures.others c.first_start-start.ensures c.head_of-2.ensures.frame c.head_of-2.ensures.start c.head_of-2.ensures.len c.items_of-items-2.ensures.len read c.head_of-2.ensures.sums_up c.head_of-2.ensures.last in
    let place = free-place g.S.Summary.sums_up s.cells.items s.heads.items s.free.items c.take_last-f.new.self.items s.all c.take_last-f.result c.self.invariant.0 c.take_last-f.ensures.items in
    let wide = frame-length s.cells.items c.take_last-f.result (omega (arith, place)) in
    let one = read ∙ ap (λ (z : List _). take 1 (drop c.first_start-start.result z)) c.set.ensures.set ∙ one-set (frame_at s.cells.items c.take_last-f.result) c.first_start-start.result c.args.x (omega (arith, wide, c.first_start-start.ensures)) in
    rw c.insert_reserved-2.ensures.items (done.1 ∙ ap (λ (z : List _). insert pages c.args.p z) one)
