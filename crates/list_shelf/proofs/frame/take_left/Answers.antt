use Rattle.list_shelf.proofs.Slides.{removed-left}
use Rattle.list_shelf.proofs.frame.take_left.Goals as goal

pub returns-clause-rest : goal.returns-clause-rest
returns-clause-rest g c = removed-left c.args.part.now c.copy_within.new.self c.args.n c.args.j c.requires.within c.requires.few c.copy_within.ensures.after
