use Rattle.std.proofs.Common.{◌≡◌, drop}
use Rattle.feed_stored.specs.Text.{counter_of}
use Rattle.feed_stored.proofs.text.counter_of.Given as goal

abbrev pub invariant-loop-stamp : goal.invariant-loop-stamp
invariant-loop-stamp l = counter_of (drop l.stamp-index l.stamps) l.site ≡ counter_of l.stamps l.site
