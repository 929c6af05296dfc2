use Rattle.std.proofs.Common.{◌≡◌, ◌+◌, ◌≤◌, length}
use Rattle.view_ribbon.specs.Differences.{differing}
use Rattle.view_ribbon.proofs.differences.differing.Given as goal

abbrev pub invariant-pairs : goal.invariant-pairs
invariant-pairs g l = (l.count + differing l.ones l.rest ≡ differing l.lines l.others) × (l.count + (length l.ones + length l.rest) ≤ length l.lines + length l.others)

abbrev pub decreases-pairs : goal.decreases-pairs
decreases-pairs g l = length l.ones + length l.rest
