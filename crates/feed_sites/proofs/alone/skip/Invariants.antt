use Rattle.std.proofs.Common.{◌≡◌, length}
use Rattle.feed_sites.specs.Alone.{skip}
use Rattle.feed_sites.proofs.alone.skip.Given as goal

abbrev pub invariant-loop-rest : goal.invariant-loop-rest
invariant-loop-rest l = skip l.op l.rest ≡ skip l.op l.ops

abbrev pub decreases-loop-rest : goal.decreases-loop-rest
decreases-loop-rest l = length l.rest
