use Rattle.std.proofs.Common.{◌≡◌, ◌∙◌, ◌+◌, ◌-◌, ◌++◌, ℕ, List, length, take, drop, set, sym, ap, ap₂, get_or-set_same, arith}
use Rattle.list_shelf.specs.declared.frame.Head.{Head}
use Rattle.list_shelf.specs.Shelf.{Shelved, frame_at}
use Rattle.list_shelf.proofs.Frames.{frame-length, behind-start, part-within}
use Rattle.list_shelf.proofs.Shelves.{shelf-at, shelf-moved, shelf-renew, first-of}
use Rattle.list_shelf.proofs.shelf.Shelf.copy.Goals as goal

pub settle-start-requires-clause-frame : goal.settle-start-requires-clause-frame
settle-start-requires-clause-frame g c =
    let s = c.self.inside in
    let v = ap (λ (z : Shelved _). z.pages) c.self.view_is in
    let before = shelf-at g.S.Summary.sums_up s.cells.items s.heads.items s.free.items s.all c.args.self.now.pages c.args.q c.index-old.result.now v c.self.invariant.0 c.requires.other c.index-old.ensures in
    omega (arith, before.place, s.cells.ok.0)

pub settle-start-requires-clause-few : goal.settle-start-requires-clause-few
settle-start-requires-clause-few g c =
    let s = c.self.inside in
    let v = ap (λ (z : Shelved _). z.pages) c.self.view_is in
    let before = shelf-at g.S.Summary.sums_up s.cells.items s.heads.items s.free.items s.all c.args.self.now.pages c.args.q c.index-old.result.now v c.self.invariant.0 c.requires.other c.index-old.ensures in
    before.few

pub overflow_add-first : goal.overflow_add-first
overflow_add-first g c =
    let s = c.self.inside in
    let v = ap (λ (z : Shelved _). z.pages) c.self.view_is in
    let mid = c.settle-start.new.cells.items in
    let head = c.at-head.result in
    let heads = set s.heads.items c.args.q head in
    let moved = shelf-moved g.S.Summary.sums_up s.cells.items mid s.heads.items s.free.items s.all c.args.self.now.pages c.args.q c.settle-start.result c.index-old.result.now head v c.self.invariant.0 c.requires.other c.index-old.ensures c.settle-start.ensures.others c.at-head.ensures c.settle-start.ensures.few c.settle-start.ensures.same in
    let source = shelf-at g.S.Summary.sums_up mid heads s.free.items s.all c.args.self.now.pages c.args.p c.index-source.result.now moved.1 moved.0 c.requires.within c.index-source.ensures in
    omega (arith, source.few, source.size, c.requires.order, c.requires.inside)

pub overflow_add-end : goal.overflow_add-end
overflow_add-end g c =
    let s = c.self.inside in
    let v = ap (λ (z : Shelved _). z.pages) c.self.view_is in
    let mid = c.settle-start.new.cells.items in
    let head = c.at-head.result in
    let heads = set s.heads.items c.args.q head in
    let moved = shelf-moved g.S.Summary.sums_up s.cells.items mid s.heads.items s.free.items s.all c.args.self.now.pages c.args.q c.settle-start.result c.index-old.result.now head v c.self.invariant.0 c.requires.other c.index-old.ensures c.settle-start.ensures.others c.at-head.ensures c.settle-start.ensures.few c.settle-start.ensures.same in
    let source = shelf-at g.S.Summary.sums_up mid heads s.free.items s.all c.args.self.now.pages c.args.p c.index-source.result.now moved.1 moved.0 c.requires.within c.index-source.ensures in
    omega (arith, source.few, source.size, c.requires.inside)

pub copy-requires-clause-frame : goal.copy-requires-clause-frame
copy-requires-clause-frame g c =
    let s = c.self.inside in
    let v = ap (λ (z : Shelved _). z.pages) c.self.view_is in
    let mid = c.settle-start.new.cells.items in
    let head = c.at-head.result in
    let heads = set s.heads.items c.args.q head in
    let moved = shelf-moved g.S.Summary.sums_up s.cells.items mid s.heads.items s.free.items s.all c.args.self.now.pages c.args.q c.settle-start.result c.index-old.result.now head v c.self.invariant.0 c.requires.other c.index-old.ensures c.settle-start.ensures.others c.at-head.ensures c.settle-start.ensures.few c.settle-start.ensures.same in
    let source = shelf-at g.S.Summary.sums_up mid heads s.free.items s.all c.args.self.now.pages c.args.p c.index-source.result.now moved.1 moved.0 c.requires.within c.index-source.ensures in
    omega (arith, source.place, c.settle-start.new.cells.ok.0)

pub copy-requires-clause-other : goal.copy-requires-clause-other
copy-requires-clause-other g c =
    let s = c.self.inside in
    let v = ap (λ (z : Shelved _). z.pages) c.self.view_is in
    let mid = c.settle-start.new.cells.items in
    let head = c.at-head.result in
    let heads = set s.heads.items c.args.q head in
    let moved = shelf-moved g.S.Summary.sums_up s.cells.items mid s.heads.items s.free.items s.all c.args.self.now.pages c.args.q c.settle-start.result c.index-old.result.now head v c.self.invariant.0 c.requires.other c.index-old.ensures c.settle-start.ensures.others c.at-head.ensures c.settle-start.ensures.few c.settle-start.ensures.same in
    let before = shelf-at g.S.Summary.sums_up s.cells.items s.heads.items s.free.items s.all c.args.self.now.pages c.args.q c.index-old.result.now v c.self.invariant.0 c.requires.other c.index-old.ensures in
    let set-here = sym (get_or-set_same s.heads.items c.args.q head head before.within) in
    let target = shelf-at g.S.Summary.sums_up mid heads s.free.items s.all c.args.self.now.pages c.args.q head moved.1 moved.0 c.requires.other set-here in
    omega (arith, target.place, c.settle-start.new.cells.ok.0)

pub copy-requires-clause-within : goal.copy-requires-clause-within
copy-requires-clause-within g c =
    let s = c.self.inside in
    let v = ap (λ (z : Shelved _). z.pages) c.self.view_is in
    let mid = c.settle-start.new.cells.items in
    let head = c.at-head.result in
    let heads = set s.heads.items c.args.q head in
    let moved = shelf-moved g.S.Summary.sums_up s.cells.items mid s.heads.items s.free.items s.all c.args.self.now.pages c.args.q c.settle-start.result c.index-old.result.now head v c.self.invariant.0 c.requires.other c.index-old.ensures c.settle-start.ensures.others c.at-head.ensures c.settle-start.ensures.few c.settle-start.ensures.same in
    let source = shelf-at g.S.Summary.sums_up mid heads s.free.items s.all c.args.self.now.pages c.args.p c.index-source.result.now moved.1 moved.0 c.requires.within c.index-source.ensures in
    omega (arith, source.few, source.size, c.requires.inside)

pub items_of-items-requires-clause-within : goal.items_of-items-requires-clause-within
items_of-items-requires-clause-within g c =
    let s = c.self.inside in
    let v = ap (λ (z : Shelved _). z.pages) c.self.view_is in
    let mid = c.settle-start.new.cells.items in
    let head = c.at-head.result in
    let heads = set s.heads.items c.args.q head in
    let moved = shelf-moved g.S.Summary.sums_up s.cells.items mid s.heads.items s.free.items s.all c.args.self.now.pages c.args.q c.settle-start.result c.index-old.result.now head v c.self.invariant.0 c.requires.other c.index-old.ensures c.settle-start.ensures.others c.at-head.ensures c.settle-start.ensures.few c.settle-start.ensures.same in
    let before = shelf-at g.S.Summary.sums_up s.cells.items s.heads.items s.free.items s.all c.args.self.now.pages c.args.q c.index-old.result.now v c.self.invariant.0 c.requires.other c.index-old.ensures in
    let set-here = sym (get_or-set_same s.heads.items c.args.q head head before.within) in
    let target = shelf-at g.S.Summary.sums_up mid heads s.free.items s.all c.args.self.now.pages c.args.q head moved.1 moved.0 c.requires.other set-here in
    omega (arith, target.place, c.settle-start.new.cells.ok.0, c.deref.ensures.len, c.copy.ensures.len, c.copy.new.cells.ok.0)

pub invariant_of-self : goal.invariant_of-self
invariant_of-self g c =
    let s = c.self.inside in
    let v = ap (λ (z : Shelved _). z.pages) c.self.view_is in
    let mid = c.settle-start.new.cells.items in
    let head = c.at-head.result in
    let heads = set s.heads.items c.args.q head in
    let moved = shelf-moved g.S.Summary.sums_up s.cells.items mid s.heads.items s.free.items s.all c.args.self.now.pages c.args.q c.settle-start.result c.index-old.result.now head v c.self.invariant.0 c.requires.other c.index-old.ensures c.settle-start.ensures.others c.at-head.ensures c.settle-start.ensures.few c.settle-start.ensures.same in
    let before = shelf-at g.S.Summary.sums_up s.cells.items s.heads.items s.free.items s.all c.args.self.now.pages c.args.q c.index-old.result.now v c.self.invariant.0 c.requires.other c.index-old.ensures in
    let set-here = sym (get_or-set_same s.heads.items c.args.q head head before.within) in
    let target = shelf-at g.S.Summary.sums_up mid heads s.free.items s.all c.args.self.now.pages c.args.q head moved.1 moved.0 c.requires.other set-here in
    let done = shelf-renew g.S.Summary.sums_up mid c.copy.new.cells.items heads s.free.items s.all c.args.self.now.pages c.args.q c.settle-start.result (c.args.n + (c.args.to - c.args.from)) head c.head_of.result c.items_of-items.result.now c.deref.result.now moved.1 moved.0 c.requires.other set-here c.copy.ensures.others c.deref.ensures.value c.items_of-items.ensures.is c.items_of-items.ensures.len c.settle-start.ensures.room c.head_of.ensures.frame c.head_of.ensures.start c.head_of.ensures.len c.head_of.ensures.sums_up c.head_of.ensures.last in
    (done.0, c.self.invariant.1, omega (arith, c.self.invariant.2, c.settle-start.ensures.capacity, c.copy.ensures.capacity), c.self.invariant.3)

pub returns-clause-put : goal.returns-clause-put
returns-clause-put g c =
    let s = c.self.inside in
    let v = ap (λ (z : Shelved _). z.pages) c.self.view_is in
    let mid = c.settle-start.new.cells.items in
    let head = c.at-head.result in
    let heads = set s.heads.items c.args.q head in
    let moved = shelf-moved g.S.Summary.sums_up s.cells.items mid s.heads.items s.free.items s.all c.args.self.now.pages c.args.q c.settle-start.result c.index-old.result.now head v c.self.invariant.0 c.requires.other c.index-old.ensures c.settle-start.ensures.others c.at-head.ensures c.settle-start.ensures.few c.settle-start.ensures.same in
    let source = shelf-at g.S.Summary.sums_up mid heads s.free.items s.all c.args.self.now.pages c.args.p c.index-source.result.now moved.1 moved.0 c.requires.within c.index-source.ensures in
    let before = shelf-at g.S.Summary.sums_up s.cells.items s.heads.items s.free.items s.all c.args.self.now.pages c.args.q c.index-old.result.now v c.self.invariant.0 c.requires.other c.index-old.ensures in
    let set-here = sym (get_or-set_same s.heads.items c.args.q head head before.within) in
    let target = shelf-at g.S.Summary.sums_up mid heads s.free.items s.all c.args.self.now.pages c.args.q head moved.1 moved.0 c.requires.other set-here in
    let done = shelf-renew g.S.Summary.sums_up mid c.copy.new.cells.items heads s.free.items s.all c.args.self.now.pages c.args.q c.settle-start.result (c.args.n + (c.args.to - c.args.from)) head c.head_of.result c.items_of-items.result.now c.deref.result.now moved.1 moved.0 c.requires.other set-here c.copy.ensures.others c.deref.ensures.value c.items_of-items.ensures.is c.items_of-items.ensures.len c.settle-start.ensures.room c.head_of.ensures.frame c.head_of.ensures.start c.head_of.ensures.len c.head_of.ensures.sums_up c.head_of.ensures.last in
    let k = length heads + length s.free.items in
    let from = c.index-source.result.now in
    let start : head.start ≡ c.settle-start.result = ap (λ (z : Head _ _). z.start) c.at-head.ensures in
    let long = frame-length mid head.frame (omega (arith, target.place)) in
    let size : c.args.n + (c.args.to - c.args.from) ≡ c.args.n + (from.start + c.args.to - (from.start + c.args.from)) = omega (arith, c.requires.order) in
    let part = drop (from.start + c.args.from) (take (from.start + c.args.to) (frame_at mid from.frame)) in
    let put = behind-start (frame_at mid head.frame) (frame_at c.copy.new.cells.items head.frame) part c.settle-start.result c.args.n (from.start + c.args.to - (from.start + c.args.from)) (omega (arith, long, start, target.few, target.size, c.requires.some)) c.copy.ensures.put in
    let first = ap (λ (i : ℕ). take c.args.n (drop i (frame_at mid head.frame))) (sym start) ∙ first-of mid c.args.self.now.pages heads k c.args.q c.args.n head target (omega (arith, target.size, c.requires.some)) in
    let rest = part-within (frame_at mid from.frame) from.start c.args.from c.args.to ∙ ap (λ (z : List _). drop c.args.from z) (first-of mid c.args.self.now.pages heads k c.args.p c.args.to from source (omega (arith, source.size, c.requires.inside))) in
    let read = rw c.deref.ensures.value at c.items_of-items.ensures.is in
    done.1 ∙ ap (λ (z : List _). set c.args.self.now.pages c.args.q z)
    (read ∙ ap (λ (i : ℕ). take i (drop c.settle-start.result (frame_at c.copy.new.cells.items head.frame))) size ∙ put ∙ ap₂ (λ (y z : List _). y ++ z) first rest)
