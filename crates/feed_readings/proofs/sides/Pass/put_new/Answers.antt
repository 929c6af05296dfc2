use Rattle.std.proofs.Common.{◌∙◌, sym}
use Rattle.feed_readings.proofs.Passed.{put_other}
use Rattle.feed_readings.proofs.sides.Pass.put_new.Goals as goal

pub returns : goal.returns
returns g c =
    λ ones ops a _.
    let p = c.args.self.now in
    put_other ones ops p.last c.stamp-stamp.result p.olds.items p.news.items c.push.new.self.items p.shared c.args.op.now c.stamp-stamp.ensures (sym c.is_before.ensures ∙ c.if-not-is_before.false) c.in_ok-push.ensures.items a
