use Rattle.std.proofs.lemmas.Result.{IfOk-weaker}
use Rattle.view_pages.proofs.Putting.{some_weaker}
use Rattle.view_pages.proofs.numbering.long_pages.Goals as goal

pub returns-in-Ok-clause-some : goal.returns-in-Ok-clause-some
returns-in-Ok-clause-some g c =
    IfOk-weaker c.pages_of.result _ _ (λ o h. some_weaker o _ _ (λ v s. (c.in-Ok.galley, c.in-Ok.ensures.ok, s.0, s.1)) h) c.pages_of.ensures.some
