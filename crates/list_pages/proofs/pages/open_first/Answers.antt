use Rattle.std.proofs.Common.{◌∷◌, [], refl, arith}
use Rattle.list_pages.proofs.Cuts.{half-first}
use Rattle.list_pages.proofs.pages.open_first.Goals as goal

pub returns-clause-put : goal.returns-clause-put
returns-clause-put g c = rw c.open.ensures.put refl

pub returns-clause-half : goal.returns-clause-half
returns-clause-half g c = rw c.open.ensures.put (half-first c.args.pages.now.pages (c.args.x ∷ []) (omega arith) c.requires.half c.requires.full)
