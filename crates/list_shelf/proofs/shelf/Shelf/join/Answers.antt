use Rattle.list_shelf.proofs.Shelves.{join-made}
use Rattle.list_shelf.proofs.shelf.Shelf.join.Goals as goal

pub returns-clause-joined : goal.returns-clause-joined
returns-clause-joined g c = rw (c.close.ensures.rest, c.copy.ensures.put) (join-made c.args.self.now.pages c.args.p c.args.next c.len_of.result c.len_of-n.result c.len_of.ensures.len c.len_of-n.ensures.len)
