use Rattle.std.proofs.Common.{◌≡◌, ◌++◌, drop}
use Rattle.feed_history.specs.Spots.{first_of, or_else, target_place}
use Rattle.feed_history.specs.Texts.{deleted}
use Rattle.feed_history.proofs.taken.Taken.add_all.Given as goal

abbrev pub invariant-loop-op : goal.invariant-loop-op
invariant-loop-op g l = record {
  symbols : l.self.symbols.items ++ deleted l.all (drop l.op-index l.ops) ≡ l.fn.self.symbols.items ++ deleted l.all l.ops;
  place : or_else l.self.place (first_of (target_place l.spots) (drop l.op-index l.ops)) ≡ or_else l.fn.self.place (first_of (target_place l.spots) l.ops);
}
