use Rattle.std.proofs.Common.{◌≡◌, true, subst}
use Rattle.desk_ops.specs.declared.op.Stamp.{Stamp}
use Rattle.desk_ops.specs.Stamp.{before}
use Rattle.feed_readings.proofs.Differing.{unborne_before, unborne_empty}
use Rattle.feed_readings.proofs.parts.first_of.Goals as goal

pub returns-then-is_empty : goal.returns-then-is_empty
returns-then-is_empty g c = λ s b. unborne_empty c.args.held.now.ops s (c.is_empty.ensures.0 c.if-is_empty.true)

pub returns : goal.returns
returns g c = λ s b. unborne_before c.args.held.now.ops c.op.result s c.op.ensures.value (subst (λ (t : Stamp). before s t ≡ true) c.stamp.ensures b)
