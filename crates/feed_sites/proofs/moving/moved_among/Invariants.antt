use Rattle.std.proofs.Common.{◌≡◌, ◌++◌, drop}
use Rattle.std.specs.Prelude.{All}
use Rattle.std.specs.List.{filter}
use Rattle.desk_ops.specs.Op.{IsLawful}
use Rattle.feed_sites.specs.Moving.{is_moved}
use Rattle.feed_sites.proofs.moving.moved_among.Given as goal

abbrev pub invariant-loop-op : goal.invariant-loop-op
invariant-loop-op g l = record {
  made : l.moved.items ++ filter (is_moved l.firsts l.other.ops) (drop l.op-index l.ops) ≡ filter (is_moved l.firsts l.other.ops) l.ops;
  lawful : All IsLawful l.moved.items;
}
