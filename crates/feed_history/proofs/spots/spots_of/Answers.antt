use Rattle.std.proofs.Common.{length, ◌≤◌, arith}
use Rattle.feed_history.proofs.Elements.{found_alike, spots_rise}
use Rattle.feed_history.proofs.spots.spots_of.Goals as goal

pub returns-clause-rise : goal.returns-clause-rise
returns-clause-rise g c = spots_rise c.sort_unstable.new.self.items c.sort_unstable.ensures.sorted

pub returns-clause-same : goal.returns-clause-same
returns-clause-same g c =
    let es = g.Q.Sequence.entries c.args.sequence.now in
    let past : length es ≤ c.loop-at.at = omega (arith, c.loop-at-test.false, c.len-at-end.ensures.length) in
    found_alike es c.loop-at.spots.items c.sort_unstable.new.self.items c.loop-at.place c.loop-at.at c.len.ensures.distinct past c.loop-at.invariant.so_far c.sort_unstable.ensures.permutation
