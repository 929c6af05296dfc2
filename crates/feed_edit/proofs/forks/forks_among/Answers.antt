use Rattle.std.proofs.lemmas.List.Filters.{dedup_is}
use Rattle.feed_edit.specs.Stamps.{same_stamp}
use Rattle.feed_edit.proofs.Fresh.{fresh_sorted}
use Rattle.feed_edit.proofs.forks.forks_among.Goals as goal

pub returns-clause-stamps : goal.returns-clause-stamps
returns-clause-stamps g c =
    fresh_sorted c.args.known.now c.args.faults.now c.in_ok-stamps.stamps.items c.sort_unstable.new.self.items c.dedup.new.self.items c.in_ok-stamps.ensures.stamps c.sort_unstable.ensures.permutation
    c.sort_unstable.ensures.sorted (dedup_is same_stamp c.sort_unstable.new.self.items c.dedup.new.self.items c.dedup.ensures.filtered)
