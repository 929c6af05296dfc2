use Rattle.list_pages.proofs.Cuts.{spot-of}
use Rattle.list_pages.proofs.pages.locate.Goals as goal

pub returns-clause-spot : goal.returns-clause-spot
returns-clause-spot g c = spot-of c.args.pages.now.pages c.args.i c.locate_to_end.result.0 c.locate_to_end.result.1 c.locate_to_end.ensures.spot c.locate_to_end.ensures.is c.requires.within
