use Rattle.std.proofs.Common.{◌∙◌, sym}
use Rattle.feed_readings.proofs.Passed.{put_each, same_op}
use Rattle.feed_readings.proofs.sides.Pass.put_both.Goals as goal

pub returns : goal.returns
returns g c =
    λ ones ops a _.
    let p = c.args.self.now in
    let one = c.args.one.now in
    let op = c.args.op.now in
    put_each ones ops p.last c.stamp-stamp.result p.olds.items p.news.items p.shared c.put_target_of.new.targets one op (same_op one op c.ne.result c.ne.ensures c.if-ne.false) c.stamp-stamp.ensures
    (sym c.is_before.ensures ∙ c.if-not-is_before.false) c.in_ok-put_target_of.ensures a
