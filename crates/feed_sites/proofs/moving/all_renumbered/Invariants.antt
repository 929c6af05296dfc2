use Rattle.std.proofs.Common.{◌≡◌, map, take}
use Rattle.std.specs.Prelude.{All}
use Rattle.desk_ops.specs.Op.{IsLawful}
use Rattle.feed_sites.specs.Moving.{renumbered}
use Rattle.feed_sites.proofs.moving.all_renumbered.Given as goal

abbrev pub invariant-loop-op : goal.invariant-loop-op
invariant-loop-op g l = record {
  made : l.list.items ≡ map (renumbered l.site l.moved.ops) (take l.op-index l.ops);
  lawful : All IsLawful l.list.items;
}
