use Rattle.std.proofs.Common.{◌≡◌, ◌∙◌, [], List, get_or, take, drop, set, sym, ap, arith}
use Rattle.std.proofs.Math.Seq.{take-set-lt}
use Rattle.std.proofs.lemmas.List.{drop-set-add}
use Rattle.list_shelf.specs.Shelf.{Shelved, frame_at}
use Rattle.list_shelf.proofs.Shelves.{shelf-at, shelf-changed, last-written}
use Rattle.list_shelf.proofs.shelf.Shelf.set.Goals as goal

pub items_of-requires-clause-within : goal.items_of-requires-clause-within
items_of-requires-clause-within g c =
    let s = c.self.inside in
    let v = ap (λ (z : Shelved _). z.pages) c.self.view_is in
    let pages = c.args.self.now.pages in
    let at = shelf-at g.S.Summary.sums_up s.cells.items s.heads.items s.free.items s.all c.args.self.now.pages c.args.p c.index-head.result.now v c.self.invariant.0 c.requires.within c.index-head.ensures in
    omega (arith, at.place, s.cells.ok.0)

pub items_of-requires-clause-few : goal.items_of-requires-clause-few
items_of-requires-clause-few g c =
    let s = c.self.inside in
    let v = ap (λ (z : Shelved _). z.pages) c.self.view_is in
    let pages = c.args.self.now.pages in
    let at = shelf-at g.S.Summary.sums_up s.cells.items s.heads.items s.free.items s.all c.args.self.now.pages c.args.p c.index-head.result.now v c.self.invariant.0 c.requires.within c.index-head.ensures in
    at.few

pub set-requires-clause-within : goal.set-requires-clause-within
set-requires-clause-within g c =
    let s = c.self.inside in
    let v = ap (λ (z : Shelved _). z.pages) c.self.view_is in
    let pages = c.args.self.now.pages in
    let at = shelf-at g.S.Summary.sums_up s.cells.items s.heads.items s.free.items s.all c.args.self.now.pages c.args.p c.index-head.result.now v c.self.invariant.0 c.requires.within c.index-head.ensures in
    omega (arith, at.size, at.few, c.requires.inside)

pub invariant_of-self : goal.invariant_of-self
invariant_of-self g c =
    let s = c.self.inside in
    let v = ap (λ (z : Shelved _). z.pages) c.self.view_is in
    let pages = c.args.self.now.pages in
    let page = get_or pages c.args.p [] in
    let b = c.index-head.result.now in
    let at = shelf-at g.S.Summary.sums_up s.cells.items s.heads.items s.free.items s.all pages c.args.p b v c.self.invariant.0 c.requires.within c.index-head.ensures in
    let put : take b.len (drop b.start (frame_at c.set.new.cells.items b.frame)) ≡ set page c.args.j c.args.x = ap (λ (z : List _). take b.len (drop b.start z)) c.set.ensures.set ∙ ap (λ (z : List _). take b.len z) (drop-set-add b.start (frame_at s.cells.items b.frame) c.args.j c.args.x) ∙ take-set-lt b.len (drop b.start (frame_at s.cells.items b.frame)) c.args.j c.args.x (omega (arith, at.size, c.requires.inside)) ∙ ap (λ (z : List _). set z c.args.j c.args.x) (sym at.page) in
    let old = rw c.deref.ensures.value at c.items_of.ensures.is ∙ sym at.page in
    let was = c.index-items_of-j.is ∙ ap (λ (z : List _). get_or z c.args.j c.index-items_of-j.result) old in
    let summed = c.replaced.ensures page c.args.j (omega (arith, at.size, at.few)) c.requires.inside was at.summed in
    let last = last-written page c.args.j b.len c.args.x b.last c.last_with-last.result at.size c.requires.inside at.last c.last_with-last.ensures.new c.last_with-last.ensures.kept in
    let done = shelf-changed g.S.Summary.sums_up s.cells.items c.set.new.cells.items s.heads.items s.free.items s.all pages c.args.p b.start b.len c.last_with-last.result c.replaced.result b (set page c.args.j c.args.x) v c.self.invariant.0 c.requires.within c.index-head.ensures c.set.ensures.others at.few put summed last in
    (done.0, c.self.invariant.1, omega (arith, c.self.invariant.2, c.set.ensures.capacity), c.self.invariant.3)

pub returns-clause-set : goal.returns-clause-set
returns-clause-set g c =
    let s = c.self.inside in
    let v = ap (λ (z : Shelved _). z.pages) c.self.view_is in
    let pages = c.args.self.now.pages in
    let page = get_or pages c.args.p [] in
    let b = c.index-head.result.now in
    let at = shelf-at g.S.Summary.sums_up s.cells.items s.heads.items s.free.items s.all pages c.args.p b v c.self.invariant.0 c.requires.within c.index-head.ensures in
    let put : take b.len (drop b.start (frame_at c.set.new.cells.items b.frame)) ≡ set page c.args.j c.args.x = ap (λ (z : List _). take b.len (drop b.start z)) c.set.ensures.set ∙ ap (λ (z : List _). take b.len z) (drop-set-add b.start (frame_at s.cells.items b.frame) c.args.j c.args.x) ∙ take-set-lt b.len (drop b.start (frame_at s.cells.items b.frame)) c.args.j c.args.x (omega (arith, at.size, c.requires.inside)) ∙ ap (λ (z : List _). set z c.args.j c.args.x) (sym at.page) in
    let old = rw c.deref.ensures.value at c.items_of.ensures.is ∙ sym at.page in
    let was = c.index-items_of-j.is ∙ ap (λ (z : List _). get_or z c.args.j c.index-items_of-j.result) old in
    let summed = c.replaced.ensures page c.args.j (omega (arith, at.size, at.few)) c.requires.inside was at.summed in
    let last = last-written page c.args.j b.len c.args.x b.last c.last_with-last.result at.size c.requires.inside at.last c.last_with-last.ensures.new c.last_with-last.ensures.kept in
    let done = shelf-changed g.S.Summary.sums_up s.cells.items c.set.new.cells.items s.heads.items s.free.items s.all pages c.args.p b.start b.len c.last_with-last.result c.replaced.result b (set page c.args.j c.args.x) v c.self.invariant.0 c.requires.within c.index-head.ensures c.set.ensures.others at.few put summed last in
    done.1

pub overflow_add-head : goal.overflow_add-head
overflow_add-head g c =
    let s = c.self.inside in
    let v = ap (λ (z : Shelved _). z.pages) c.self.view_is in
    let at = shelf-at g.S.Summary.sums_up s.cells.items s.heads.items s.free.items s.all c.args.self.now.pages c.args.p c.index-head.result.now v c.self.invariant.0 c.requires.within c.index-head.ensures in
    omega (arith, at.size, at.few, c.requires.inside)
