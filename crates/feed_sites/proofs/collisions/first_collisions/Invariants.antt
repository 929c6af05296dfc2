use Rattle.std.proofs.Common.{◌≡◌, ◌||◌, drop, length}
use Rattle.std.specs.List.{list_any}
use Rattle.desk_ops.specs.declared.op.Stamp.{Stamp}
use Rattle.feed_sites.specs.Moving.{collides_before, is_from}
use Rattle.feed_sites.proofs.collisions.first_collisions.Given as goal

abbrev pub invariant-loop-op : goal.invariant-loop-op
invariant-loop-op g l = record {
  long : length l.firsts.items ≡ 65536;
  found : (s : Stamp) → (is_from l.firsts.items s || list_any (collides_before l.feed.ops l.other.ops s) (drop l.op-index l.ops)) ≡ list_any (collides_before l.feed.ops l.other.ops s) l.ops;
}
