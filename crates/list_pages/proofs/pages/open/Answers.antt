use Rattle.std.proofs.Common.{◌∷◌, [], arith}
use Rattle.list_pages.proofs.Cuts.{joined-push, half-push, insert-behind}
use Rattle.list_pages.proofs.pages.open.Goals as goal

pub returns-clause-put : goal.returns-clause-put
returns-clause-put g c = rw (c.open.ensures.put, insert-behind c.args.pages.now.pages c.len.result (c.args.x ∷ []) c.len.ensures) (joined-push c.args.pages.now.pages (c.args.x ∷ []))

pub returns-clause-half : goal.returns-clause-half
returns-clause-half g c = rw (c.open.ensures.put, insert-behind c.args.pages.now.pages c.len.result (c.args.x ∷ []) c.len.ensures) (half-push c.args.pages.now.pages (c.args.x ∷ []) (omega arith) c.requires.half c.requires.closed)
