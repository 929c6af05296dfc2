use Rattle.std.proofs.Common.{◌≡◌, ◌∙◌, ap}
use Rattle.desk_ops.specs.OpSet.{no_ops, with_all}
use Rattle.desk_ops.proofs.Unions.{with_all-in_order}
use Rattle.feed_sites.proofs.Moved.{ok_was}
use Rattle.feed_sites.proofs.making.held_of.Goals as goal

pub returns-clause-held : goal.returns-clause-held
returns-clause-held g c =
    ok_was (λ h. h.ops ≡ with_all no_ops c.deref.result.now) c.of_rising.result _ c.ok_or.result c.in_ok-held.held c.ok_or.ensures.value c.in_ok-held.was c.of_rising.ensures.ops
    ∙ ap (with_all no_ops) (c.deref.ensures.value ∙ c.in_ok-ops.ensures.items) ∙ with_all-in_order c.args.replica.now.ops
