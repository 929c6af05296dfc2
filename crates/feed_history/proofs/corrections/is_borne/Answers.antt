use Rattle.std.proofs.Common.{◌∙◌, ap}
use Rattle.std.specs.Prelude.{is_some}
use Rattle.desk_ops.specs.Held.{bears, is_borne}
use Rattle.feed_history.proofs.Rows.{some_first}
use Rattle.feed_history.proofs.corrections.is_borne.Goals as goal

pub returns : goal.returns
unfolding is_borne
returns c = c.is_some.ensures ∙ ap is_some c.first_bearing.ensures ∙ some_first (bears c.args.stamp) c.args.ops.now
