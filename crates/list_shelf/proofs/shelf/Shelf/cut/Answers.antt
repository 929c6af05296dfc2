use Rattle.std.proofs.Common.{[], get_or, add-one, arith}
use Rattle.list_shelf.proofs.Shelves.{cut-made, half-size}
use Rattle.list_shelf.proofs.shelf.Shelf.cut.Goals as goal

pub returns-clause-cut : goal.returns-clause-cut
returns-clause-cut g c = rw (c.move_to-2.ensures.same, c.keep.ensures.kept, c.copy.ensures.put, c.move_to.ensures.same, c.open.ensures.put, add-one) (cut-made c.args.self.now.pages c.args.p c.index-head.result.now.last c.requires.within c.requires.full)

pub move_to-requires-2-clause-room : goal.move_to-requires-2-clause-room
move_to-requires-2-clause-room g c = rw c.keep.ensures.kept (omega (arith, half-size c.copy.new.self.pages c.args.p (get_or c.copy.new.self.pages c.args.p [])))
