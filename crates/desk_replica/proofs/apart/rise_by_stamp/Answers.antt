use Rattle.std.proofs.Common.{◌∙◌, sym}
use Rattle.desk_replica.proofs.Unforked.{rise-more}
use Rattle.desk_replica.proofs.apart.rise_by_stamp.Goals as goal

pub loop-at-preserved : goal.loop-at-preserved
loop-at-preserved c = rise-more c.args.ops.now c.loop-at.at _ c.loop-at.auto.at c.loop-at-test.true c.loop-at.invariant (sym c.is_older.ensures ∙ c.if-not-is_older.false)
