use Rattle.std.proofs.Common.{◌≡◌, ◌-◌, ◌≤◌, drop}
use Rattle.desk_ops.specs.OpSet.{in_order, max_ops, size}
use Rattle.feed_stored.specs.Greatest.{greatest_from, greatest_of}
use Rattle.feed_stored.proofs.greatest.greatest_in.Given as goal

abbrev pub invariant-turns : goal.invariant-turns
invariant-turns g l = record {
  within : l.from ≤ l.len;
  so_far : greatest_from l.greatest (drop l.from (in_order l.replica.ops)) l.site ≡ greatest_of l.replica.ops l.site;
}

abbrev pub decreases-turns : goal.decreases-turns
decreases-turns g l = l.len - l.from
