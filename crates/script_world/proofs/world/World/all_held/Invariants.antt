use Rattle.std.proofs.Common.{◌≡◌, drop}
use Rattle.script_world.specs.Sites.{all_held}
use Rattle.script_world.proofs.world.World.all_held.Given as goal

abbrev pub invariant-loop-op : goal.invariant-loop-op
invariant-loop-op g l = all_held l.self (drop l.op-index l.ops) ≡ all_held l.self l.ops
