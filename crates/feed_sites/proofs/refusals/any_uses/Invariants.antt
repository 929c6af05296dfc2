use Rattle.std.proofs.Common.{◌≡◌, drop}
use Rattle.std.specs.List.{list_any}
use Rattle.feed_sites.specs.Refusing.{uses}
use Rattle.feed_sites.proofs.refusals.any_uses.Given as goal

abbrev pub invariant-loop-op : goal.invariant-loop-op
invariant-loop-op l = list_any (uses l.site) (drop l.op-index l.ops) ≡ list_any (uses l.site) l.ops
