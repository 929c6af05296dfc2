use Rattle.std.proofs.Common.{arith}
use Rattle.list_shelf.specs.Shelf.{frame_at}
use Rattle.list_shelf.proofs.Frames.{moved, frame-length}
use Rattle.list_shelf.proofs.frame.shift.Goals as goal

pub returns-clause-same : goal.returns-clause-same
returns-clause-same g c =
    let cells = c.args.cells.now in
    let long = frame-length cells.items c.args.f (omega (arith, c.requires.frame, cells.ok.0)) in
    moved (frame_at cells.items c.args.f) (frame_at c.copy.new.cells.items c.args.f) c.args.s c.args.n c.args.to (omega (arith, c.requires.room)) c.copy.ensures.put
