use Rattle.std.proofs.Common.{add-one}
use Rattle.list_shelf.proofs.Slides.{inserted-left}
use Rattle.list_shelf.proofs.frame.put_left.Goals as goal

pub returns-clause-put : goal.returns-clause-put
returns-clause-put g c = rw add-one (inserted-left c.args.part.now c.copy_within.new.self c.args.n c.args.j c.args.x c.requires.within c.requires.room (rw add-one at c.copy_within.ensures.after))
