use Rattle.std.proofs.Common.{add-one}
use Rattle.list_shelf.proofs.Slides.{removed}
use Rattle.list_shelf.proofs.frame.take_right.Goals as goal

pub returns-clause-rest : goal.returns-clause-rest
returns-clause-rest g c = removed c.args.part.now c.copy_within.new.self c.args.n c.args.j c.requires.within c.requires.few (rw add-one at c.copy_within.ensures.after)
