use Rattle.feed_sites.proofs.Begins.{begun_next}
use Rattle.feed_sites.proofs.Parts.{reached_farther}
use Rattle.feed_sites.proofs.stretches.walk.Goals as goal

pub pass-requires : goal.pass-requires
pass-requires g c =
    let one = c.args.one.now in
    let other = c.args.other.now in
    let front = c.loop-point.front in
    let point = c.loop-point.point in
    let next = c.step-next.result in
    let reported = c.loop-point.invariant.reported in
    record {
      reported = reported.reported;
      apart = reported.apart;
      behind = reported.behind;
      open_whole = reported.open_whole;
      last_whole = reported.last_whole;
      last_reached = reported.last_reached;
      point_reached = reached_farther one other front.last point next reported.point_reached c.step-next.ensures.reached;
      begun = begun_next one other front point next (reached_farther one other front.open front.last point reported.last_reached reported.point_reached) c.step-next.ensures reported.begun;
    }
