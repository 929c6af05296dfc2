use Rattle.std.proofs.Common.{◌≡◌, drop}
use Rattle.feed_history.specs.Spots.{first_of, own_place}
use Rattle.feed_history.proofs.spots.place_of.Given as goal

abbrev pub invariant-loop-op : goal.invariant-loop-op
invariant-loop-op l = first_of (own_place l.spots) (drop l.op-index l.ops) ≡ first_of (own_place l.spots) l.ops
