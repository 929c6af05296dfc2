use Rattle.std.proofs.Common.{refl}
use Rattle.feed_readings.proofs.Passed.{beside_passed, news_passed}
use Rattle.feed_readings.proofs.sides.sides_of_rising.Goals as goal

pub returns : goal.returns
returns g c =
    let ones = c.args.ones.now in
    let ops = c.args.ops.now in
    let p = c.in-Some.pass in
    let a = rw c.in-Some.is at c.in_ok-pass.ensures in
    record {
      olds = beside_passed ones ops p.last p.olds.items p.news.items p.shared a _ refl refl c.requires.ones;
      news = news_passed ones ops p.last p.olds.items p.news.items p.shared a c.requires.ops;
    }
