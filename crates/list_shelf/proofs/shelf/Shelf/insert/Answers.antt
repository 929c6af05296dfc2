use Rattle.std.proofs.Common.{◌≡◌, ◌∙◌, ◌+◌, [], List, get_or, take, drop, sym, ap, arith}
use Rattle.std.specs.List.{insert}
use Rattle.list_shelf.specs.Shelf.{Shelved, frame_at}
use Rattle.list_shelf.proofs.Shelves.{shelf-at, shelf-changed, last-inserted}
use Rattle.list_shelf.proofs.shelf.Shelf.insert.Goals as goal

pub put-start-requires-clause-frame : goal.put-start-requires-clause-frame
put-start-requires-clause-frame g c =
    let s = c.self.inside in
    let v = ap (λ (z : Shelved _). z.pages) c.self.view_is in
    let pages = c.args.self.now.pages in
    let at = shelf-at g.S.Summary.sums_up s.cells.items s.heads.items s.free.items s.all c.args.self.now.pages c.args.p c.index-head.result.now v c.self.invariant.0 c.requires.within c.index-head.ensures in
    omega (arith, at.place, s.cells.ok.0)

pub put-start-requires-clause-room : goal.put-start-requires-clause-room
put-start-requires-clause-room g c =
    let s = c.self.inside in
    let v = ap (λ (z : Shelved _). z.pages) c.self.view_is in
    let pages = c.args.self.now.pages in
    let at = shelf-at g.S.Summary.sums_up s.cells.items s.heads.items s.free.items s.all c.args.self.now.pages c.args.p c.index-head.result.now v c.self.invariant.0 c.requires.within c.index-head.ensures in
    omega (arith, at.size, c.requires.room)

pub overflow_add-head : goal.overflow_add-head
overflow_add-head g c =
    let s = c.self.inside in
    let v = ap (λ (z : Shelved _). z.pages) c.self.view_is in
    let pages = c.args.self.now.pages in
    let at = shelf-at g.S.Summary.sums_up s.cells.items s.heads.items s.free.items s.all c.args.self.now.pages c.args.p c.index-head.result.now v c.self.invariant.0 c.requires.within c.index-head.ensures in
    omega (arith, at.few)

pub invariant_of-self : goal.invariant_of-self
invariant_of-self g c =
    let s = c.self.inside in
    let v = ap (λ (z : Shelved _). z.pages) c.self.view_is in
    let pages = c.args.self.now.pages in
    let page = get_or pages c.args.p [] in
    let b = c.index-head.result.now in
    let at = shelf-at g.S.Summary.sums_up s.cells.items s.heads.items s.free.items s.all pages c.args.p b v c.self.invariant.0 c.requires.within c.index-head.ensures in
    let put : take (b.len + 1) (drop c.put-start.result (frame_at c.put-start.new.cells.items b.frame)) ≡ insert page c.args.j c.args.x = c.put-start.ensures.put ∙ ap (λ (z : List _). insert z c.args.j c.args.x) (sym at.page) in
    let summed = c.with.ensures page c.args.j (omega (arith, at.size, at.few)) c.requires.inside at.summed in
    let last = last-inserted page c.args.j b.len c.args.x b.last c.last_with-last.result at.size c.requires.inside at.last c.last_with-last.ensures.new c.last_with-last.ensures.kept in
    let done = shelf-changed g.S.Summary.sums_up s.cells.items c.put-start.new.cells.items s.heads.items s.free.items s.all pages c.args.p c.put-start.result (b.len + 1) c.last_with-last.result c.with.result b (insert page c.args.j c.args.x) v c.self.invariant.0 c.requires.within c.index-head.ensures c.put-start.ensures.others c.put-start.ensures.few put summed last in
    (done.0, c.self.invariant.1, omega (arith, c.self.invariant.2, c.put-start.ensures.capacity), c.self.invariant.3)

pub returns-clause-put : goal.returns-clause-put
returns-clause-put g c =
    let s = c.self.inside in
    let v = ap (λ (z : Shelved _). z.pages) c.self.view_is in
    let pages = c.args.self.now.pages in
    let page = get_or pages c.args.p [] in
    let b = c.index-head.result.now in
    let at = shelf-at g.S.Summary.sums_up s.cells.items s.heads.items s.free.items s.all pages c.args.p b v c.self.invariant.0 c.requires.within c.index-head.ensures in
    let put : take (b.len + 1) (drop c.put-start.result (frame_at c.put-start.new.cells.items b.frame)) ≡ insert page c.args.j c.args.x = c.put-start.ensures.put ∙ ap (λ (z : List _). insert z c.args.j c.args.x) (sym at.page) in
    let summed = c.with.ensures page c.args.j (omega (arith, at.size, at.few)) c.requires.inside at.summed in
    let last = last-inserted page c.args.j b.len c.args.x b.last c.last_with-last.result at.size c.requires.inside at.last c.last_with-last.ensures.new c.last_with-last.ensures.kept in
    let done = shelf-changed g.S.Summary.sums_up s.cells.items c.put-start.new.cells.items s.heads.items s.free.items s.all pages c.args.p c.put-start.result (b.len + 1) c.last_with-last.result c.with.result b (insert page c.args.j c.args.x) v c.self.invariant.0 c.requires.within c.index-head.ensures c.put-start.ensures.others c.put-start.ensures.few put summed last in
    done.1

pub put-start-requires-clause-few : goal.put-start-requires-clause-few
put-start-requires-clause-few g c =
    let s = c.self.inside in
    let v = ap (λ (z : Shelved _). z.pages) c.self.view_is in
    let at = shelf-at g.S.Summary.sums_up s.cells.items s.heads.items s.free.items s.all c.args.self.now.pages c.args.p c.index-head.result.now v c.self.invariant.0 c.requires.within c.index-head.ensures in
    at.few
