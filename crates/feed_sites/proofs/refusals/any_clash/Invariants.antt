use Rattle.std.proofs.Common.{◌≡◌, length}
use Rattle.feed_sites.specs.Refusing.{has_clash}
use Rattle.feed_sites.proofs.refusals.any_clash.Given as goal

abbrev pub invariant-loop-rest : goal.invariant-loop-rest
invariant-loop-rest l = has_clash l.rest ≡ has_clash l.ops

abbrev pub decreases-loop-rest : goal.decreases-loop-rest
decreases-loop-rest l = length l.rest
