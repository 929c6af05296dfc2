use Rattle.std.proofs.Common.{arith}
use Rattle.list_shelf.proofs.Frames.{copied-frame}
use Rattle.list_shelf.proofs.frame.copy.Goals as goal

pub returns-clause-put : goal.returns-clause-put
returns-clause-put g c =
    let cells = c.args.cells.now in
    let k = cells.ok.0 in
    let a = c.args in
    let r = c.requires in
    copied-frame cells.items a.f a.from a.to a.g a.n c.copy_within.new.self.items (omega (arith, r.frame)) (omega (arith, r.other)) r.order r.within r.few c.copy_within.ensures.items
