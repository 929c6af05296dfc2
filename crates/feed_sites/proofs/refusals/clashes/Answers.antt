use Rattle.std.proofs.Common.{◌∙◌}
use Rattle.feed_sites.proofs.Clashing.{clash_reported}
use Rattle.feed_sites.proofs.refusals.clashes.Goals as goal

pub returns : goal.returns
returns g c = clash_reported c.args.moved.now.ops c.deref.result.now c.any_clash.result c.any_clash.ensures (c.deref.ensures.value ∙ c.in_ok-ops.ensures.items)
