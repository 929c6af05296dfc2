use Rattle.std.proofs.Common.{◌∙◌, inl, inr, sym, ap, subst}
use Rattle.desk_ops.specs.OpSet.{OpSet, no_ops, with_all}
use Rattle.desk_ops.proofs.Unions.{with_all-in_order}
use Rattle.feed_readings.specs.Before.{IsBefore}
use Rattle.feed_readings.proofs.Differing.{empty_within, listed_within}
use Rattle.feed_readings.proofs.after.before_of.Goals as goal
use Rattle.feed_readings.proofs.after.before_of.Goals.{then-is_empty-via-then-is_empty, then-is_empty-via-else-is_empty+then-has_all}

pub returns-then-is_empty : goal.returns-then-is_empty
returns-then-is_empty g c =
    let set = c.args.replica.now.ops in
    elim c.then-is_empty.branch [
      | then-is_empty-via-then-is_empty w ↦ inr (empty_within set (with_all no_ops c.args.ops.now) (c.is_empty.ensures.0 w.if-is_empty.true))
      | then-is_empty-via-else-is_empty+then-has_all w ↦ inl (listed_within set c.args.ops.now (sym w.has_all.ensures ∙ w.if-has_all.true))
    ]

pub returns-in-Some : goal.returns-in-Some
returns-in-Some g c =
    let set = c.args.replica.now.ops in
    subst (λ (s : OpSet). IsBefore s c.args.ops.now c.in-Some.before) (ap (with_all no_ops) (c.deref.ensures.value ∙ c.in_ok-ones.ensures.items) ∙ with_all-in_order set) (rw c.in-Some.is at c.in_ok-before.ensures)
