use Rattle.std.proofs.Common.{ap, arith}
use Rattle.list_shelf.specs.Shelf.{Shelved}
use Rattle.list_shelf.proofs.Shelves.{push-made, behind}
use Rattle.list_shelf.proofs.shelf.Shelf.push.Goals as goal

pub returns-clause-put : goal.returns-clause-put
returns-clause-put g c =
    let x = c.index-first-0.result in
    let s = c.self.inside in
    let v = ap (λ (z : Shelved _). z.pages) c.self.view_is in
    let k = behind s.cells.items s.heads.items s.free.items c.args.self.now.pages v in
    rw (c.extend.ensures.put, c.open.ensures.put, c.split_at.ensures.back) (push-made c.args.self.now.pages c.len-p.result x c.args.items.now (omega (arith, k, s.heads.ok.0, c.len-p.ensures)) c.requires.some (rw c.split_at.ensures.front at c.index-first-0.is))
