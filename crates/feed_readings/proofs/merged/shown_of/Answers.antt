use Rattle.std.proofs.Common.{◌∙◌}
use Rattle.feed_readings.proofs.Sets.{shown_same}
use Rattle.feed_readings.proofs.merged.shown_of.Goals as goal

pub returns : goal.returns
returns g c = c.in_ok-shown.ensures ∙ shown_same c.args.replica.now.ops _ c.sequence.ensures
