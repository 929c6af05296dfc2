use Rattle.std.proofs.Common.{◌≡◌, ◌≤◌, ◌-◌, false, length}
use Rattle.desk_ops.specs.declared.op.Stamp.{Stamp}
use Rattle.feed_sites.specs.Moving.{is_from}
use Rattle.feed_sites.proofs.collisions.no_firsts.Given as goal

abbrev pub invariant-loop-firsts : goal.invariant-loop-firsts
invariant-loop-firsts g l = record {
  few : length l.firsts.items ≤ 65536;
  none : (s : Stamp) → is_from l.firsts.items s ≡ false;
}

abbrev pub decreases-loop-firsts : goal.decreases-loop-firsts
decreases-loop-firsts g l = 65536 - length l.firsts.items
