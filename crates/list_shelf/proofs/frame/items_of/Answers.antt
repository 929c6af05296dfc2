use Rattle.list_shelf.proofs.Frames.{part-of}
use Rattle.list_shelf.proofs.frame.items_of.Goals as goal

pub returns-clause-is : goal.returns-clause-is
returns-clause-is g c = part-of c.args.cells.now c.args.f c.args.s c.args.n c.requires.few
