use Rattle.std.proofs.Common.{inr, refl, subst, sym}
use Rattle.std.proofs.lemmas.Result.{err_from_is_err_and}
use Rattle.view_preview.specs.Matter.{MatterValues}
use Rattle.view_preview.specs.Taking.{GivesFeed}
use Rattle.view_preview.proofs.taking.take_feed.Goals as goal

pub returns-in_err-of_replica-clause-err : goal.returns-in_err-of_replica-clause-err
returns-in_err-of_replica-clause-err g c =
    let t = c.in_ok-replica in
    let p = err_from_is_err_and c.from_residual-in_err-of_replica.result c.from_residual-in_err-of_replica.ensures.1 in
    rw p.1 (inr (p.2, t.ensures.still, (t.replica.ops, t.case, t.wedge, t.ensures.ok)))

pub returns-clause-ok : goal.returns-clause-ok
returns-clause-ok g c =
    let t = c.in_ok-replica in
    subst (λ (m : MatterValues). GivesFeed c.args.from.now (g.F.Files.shelf c.args.files.now) m) (sym c.in_ok-of_replica.ensures) (t.replica.ops, t.ensures.ok, refl)
