use Rattle.std.proofs.Common.{◌≡◌, ◌++◌, drop, map}
use Rattle.std.specs.Prelude.{T}
use Rattle.desk_ops.specs.OpSet.{is_rising}
use Rattle.feed_sites.specs.Alone.{alone, site_stamp}
use Rattle.feed_sites.proofs.alone.stamps_alone.Given as goal

abbrev pub invariant-loop-op : goal.invariant-loop-op
invariant-loop-op g l = record {
  others : T (is_rising l.others);
  same : l.stamps.items ++ map site_stamp (alone (drop l.op-index l.one) l.others) ≡ map site_stamp (alone l.fn.one l.fn.other);
}
