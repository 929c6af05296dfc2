use Rattle.feed_readings.proofs.Differing.{target_put}
use Rattle.feed_readings.proofs.parts.put_target.Goals as goal

pub returns : goal.returns
returns g c = target_put c.args.targets.now c.insert.new.self c.args.target c.in_ok-insert.ensures.updates.0
