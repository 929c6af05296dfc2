use Rattle.std.proofs.Common.{subst}
use Rattle.feed_readings.specs.Apart.{AreApart}
use Rattle.feed_readings.proofs.Sets.{shown_apart, shown_same}
use Rattle.feed_readings.proofs.merged.is_apart.Goals as goal

pub returns : goal.returns
returns g c = subst AreApart (shown_same c.args.replica.now.ops _ c.sequence.ensures) (shown_apart _ c.len-len.ensures.distinct)
