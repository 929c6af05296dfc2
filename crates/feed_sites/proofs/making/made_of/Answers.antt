use Rattle.std.proofs.Common.{subst}
use Rattle.std.proofs.lemmas.Result.{err_from_is_err_and}
use Rattle.desk_ops.specs.OpSet.{OpSet}
use Rattle.feed_sites.specs.Refusing.{IsRefused}
use Rattle.feed_sites.proofs.making.made_of.Goals as goal

pub returns-in_err-moved-clause-err : goal.returns-in_err-moved-clause-err
returns-in_err-moved-clause-err g c =
    let p = err_from_is_err_and c.from_residual-in_err-moved.result c.from_residual-in_err-moved.ensures.1 in
    let of_feed = subst (λ (set : OpSet). IsRefused c.args.site set c.in_ok-others.other_set.ops c.in_err-moved.field-0.0) c.in_ok-ops.ensures.held c.in_err-moved.ensures.err in
    let both = subst (λ (set : OpSet). IsRefused c.args.site c.args.feed.now.ops set c.in_err-moved.field-0.0) c.in_ok-others.ensures.held of_feed in
    rw p.1 (rw p.2 both)
