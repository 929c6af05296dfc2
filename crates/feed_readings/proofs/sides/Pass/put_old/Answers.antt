use Rattle.std.proofs.Common.{◌∙◌, sym}
use Rattle.feed_readings.proofs.Passed.{put_one}
use Rattle.feed_readings.proofs.sides.Pass.put_old.Goals as goal

pub returns : goal.returns
returns g c =
    λ ones ops a _.
    let p = c.args.self.now in
    put_one ones ops p.last c.stamp-stamp.result p.olds.items c.push.new.self.items p.news.items p.shared c.args.op.now c.stamp-stamp.ensures (sym c.is_before.ensures ∙ c.if-not-is_before.false) c.in_ok-push.ensures.items a
