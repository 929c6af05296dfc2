use Rattle.std.proofs.Common.{◌≡◌, drop}
use Rattle.feed_stored.specs.Greatest.{greatest_from}
use Rattle.feed_stored.proofs.greatest.greatest_from.Given as goal

abbrev pub invariant-loop-op : goal.invariant-loop-op
invariant-loop-op l = greatest_from l.greatest (drop l.op-index l.ops) l.site ≡ greatest_from l.least l.ops l.site
