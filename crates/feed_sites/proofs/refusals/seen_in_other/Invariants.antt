use Rattle.std.proofs.Common.{◌≡◌, drop}
use Rattle.feed_sites.specs.Refusing.{first_stamp, sees_from}
use Rattle.feed_sites.proofs.refusals.seen_in_other.Given as goal

abbrev pub invariant-loop-op : goal.invariant-loop-op
invariant-loop-op g l = first_stamp (sees_from l.moved.ops l.other.ops) (drop l.op-index l.ops) ≡ first_stamp (sees_from l.moved.ops l.other.ops) l.ops
