use Rattle.std.proofs.Common.{◌≡◌, ◌∙◌, ◌<◌, [], ap, refl, subst, sym}
use Rattle.std.proofs.lemmas.Bool.{true≢false}
use Rattle.std.proofs.lemmas.Result.{err_from_is_err_and}
use Rattle.desk_ops.specs.OpSet.{OpSet, no_ops, with_all, size, max_ops}
use Rattle.desk_held.specs.declared.AddRefusal.TheVariants as adds
use Rattle.feed_stored.specs.Stored.{was_read}
use Rattle.feed_stored.proofs.Feeds.{none_in_turn, unopened}
use Rattle.feed_stored.proofs.stored.open_replica.Goals as goal

pub returns-clause-ok : goal.returns-clause-ok
returns-clause-ok g c =
    (c.in_ok-ops.ops.items, c.in_ok-ops.ensures.feed, c.in_ok-open.ensures.ops ∙ ap (with_all no_ops) c.deref.ensures.value ∙ c.put_in_turn.ensures.turn.whole no_ops)

pub returns-in_err-open-clause-err : goal.returns-in_err-open-clause-err
returns-in_err-open-clause-err g c =
    let stop = c.in_err-open.field-0.0 in
    let same = ap (with_all no_ops) c.deref.ensures.value ∙ c.put_in_turn.ensures.turn.whole no_ops in
    let full : stop.why ≡ adds.Full → max_ops < size (with_all no_ops c.in_ok-ops.ops.items) = λ is. subst (λ (s : OpSet). max_ops < size s) same (c.in_err-open.ensures.full is) in
    let some : c.in_ok-ops.ops.items ≡ [] → ⊥ = λ is. true≢false (sym (c.in_err-open.ensures.empty (c.deref.ensures.value ∙ none_in_turn _ _ c.put_in_turn.ensures.turn is))) in
    let p = err_from_is_err_and c.from_residual-in_err-open.result c.from_residual-in_err-open.ensures.1 in
    rw p.1 (rw p.2 (unopened (was_read c.args.old.now) c.in_ok-ops.ops.items stop stop.why refl c.in_ok-ops.ensures.feed c.in_err-open.ensures.none full some))
