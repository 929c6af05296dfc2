use Rattle.std.proofs.Common.{◌≡◌, ◌++◌, drop}
use Rattle.feed_history.specs.Texts.{inserted}
use Rattle.feed_history.proofs.texts.add_inserted.Given as goal

abbrev pub invariant-loop-op : goal.invariant-loop-op
invariant-loop-op g l = l.symbols.items ++ inserted (drop l.op-index l.ops) ≡ l.fn.symbols.items ++ inserted l.ops
