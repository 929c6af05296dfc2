use Rattle.std.proofs.Common.{inr}
use Rattle.desk_ops.specs.OpSet.{no_ops, with_all}
use Rattle.feed_readings.proofs.Differing.{none_left, none_missing}
use Rattle.feed_readings.proofs.after.told_apart.Goals as goal

pub returns-then-is_empty : goal.returns-then-is_empty
returns-then-is_empty g c =
    let sides = rw c.in-Some.is at c.in_ok-sides.ensures in
    let alone = c.in-Some.sides.olds.alone in
    inr (none_missing (with_all no_ops c.args.ops.now) c.args.ones.now alone.items sides.olds.missing (none_left _ alone.items c.is_empty.result alone.ok.0 c.is_empty.ensures c.if-is_empty.true))
