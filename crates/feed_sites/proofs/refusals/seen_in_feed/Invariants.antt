use Rattle.std.proofs.Common.{◌≡◌, drop}
use Rattle.feed_sites.specs.Refusing.{first_stamp, sees}
use Rattle.feed_sites.proofs.refusals.seen_in_feed.Given as goal

abbrev pub invariant-loop-op : goal.invariant-loop-op
invariant-loop-op g l = first_stamp (sees l.moved.ops) (drop l.op-index l.ops) ≡ first_stamp (sees l.moved.ops) l.ops
