use Rattle.std.proofs.Common.{◌++◌, ◌∙◌, sym, ap, append-nil}
use Rattle.view_punch.proofs.Tallies.{are_sorts}
use Rattle.view_punch.proofs.sorts.sorts_of.Goals as goal

pub returns : goal.returns
returns g c =
    let items = c.loop-sort.sorts.items in
    let whole = sym (append-nil items) ∙ ap (λ l. items ++ l) (sym c.in-None.ensures.steps.0) ∙ c.loop-sort.invariant in
    are_sorts c.args.copy.now c.in_ok-tallies.tallies items c.in_ok-tallies.ensures c.values-sort-items.ensures.ordered (whole ∙ c.into_iter-sort-iterator.ensures.into_iter_gives ∙ c.values-sort-items.ensures.rest)
