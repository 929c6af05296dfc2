use Rattle.std.proofs.Common.{ap, arith}
use Rattle.list_shelf.specs.Shelf.{Shelved}
use Rattle.list_shelf.proofs.Shelves.{shelf-at, shelf-moved}
use Rattle.list_shelf.proofs.shelf.Shelf.move_to.Goals as goal

pub shift-requires-clause-frame : goal.shift-requires-clause-frame
shift-requires-clause-frame g c =
    let s = c.self.inside in
    let v = ap (λ (z : Shelved _). z.pages) c.self.view_is in
    let at = shelf-at g.S.Summary.sums_up s.cells.items s.heads.items s.free.items s.all c.args.self.now.pages c.args.p c.index-head.result.now v c.self.invariant.0 c.requires.within c.index-head.ensures in
    omega (arith, at.place, s.cells.ok.0)

pub shift-requires-clause-few : goal.shift-requires-clause-few
shift-requires-clause-few g c =
    let s = c.self.inside in
    let v = ap (λ (z : Shelved _). z.pages) c.self.view_is in
    let at = shelf-at g.S.Summary.sums_up s.cells.items s.heads.items s.free.items s.all c.args.self.now.pages c.args.p c.index-head.result.now v c.self.invariant.0 c.requires.within c.index-head.ensures in
    at.few

pub shift-requires-clause-room : goal.shift-requires-clause-room
shift-requires-clause-room g c =
    let s = c.self.inside in
    let v = ap (λ (z : Shelved _). z.pages) c.self.view_is in
    let at = shelf-at g.S.Summary.sums_up s.cells.items s.heads.items s.free.items s.all c.args.self.now.pages c.args.p c.index-head.result.now v c.self.invariant.0 c.requires.within c.index-head.ensures in
    omega (arith, at.size, c.requires.room)

pub invariant_of-self : goal.invariant_of-self
invariant_of-self g c =
    let s = c.self.inside in
    let v = ap (λ (z : Shelved _). z.pages) c.self.view_is in
    let at = shelf-at g.S.Summary.sums_up s.cells.items s.heads.items s.free.items s.all c.args.self.now.pages c.args.p c.index-head.result.now v c.self.invariant.0 c.requires.within c.index-head.ensures in
    let done = shelf-moved g.S.Summary.sums_up s.cells.items c.shift.new.cells.items s.heads.items s.free.items s.all c.args.self.now.pages c.args.p c.args.start c.index-head.result.now c.at.result v c.self.invariant.0 c.requires.within c.index-head.ensures c.shift.ensures.others c.at.ensures (omega (arith, at.size, c.requires.room)) c.shift.ensures.same in
    (done.0, c.self.invariant.1, omega (arith, c.self.invariant.2, c.shift.ensures.capacity), c.self.invariant.3)

pub returns-clause-same : goal.returns-clause-same
returns-clause-same g c =
    let s = c.self.inside in
    let v = ap (λ (z : Shelved _). z.pages) c.self.view_is in
    let at = shelf-at g.S.Summary.sums_up s.cells.items s.heads.items s.free.items s.all c.args.self.now.pages c.args.p c.index-head.result.now v c.self.invariant.0 c.requires.within c.index-head.ensures in
    let done = shelf-moved g.S.Summary.sums_up s.cells.items c.shift.new.cells.items s.heads.items s.free.items s.all c.args.self.now.pages c.args.p c.args.start c.index-head.result.now c.at.result v c.self.invariant.0 c.requires.within c.index-head.ensures c.shift.ensures.others c.at.ensures (omega (arith, at.size, c.requires.room)) c.shift.ensures.same in
    done.1
