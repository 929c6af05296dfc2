use Rattle.desk_walk.specs.Tree.{IsLinking}
use Rattle.desk_walk.proofs.tree.settled_lists.Given as goal

abbrev pub invariant-loop-i : goal.invariant-loop-i
invariant-loop-i g l = IsLinking l.held.ops l.i l.tree.nodes.items l.tree.count l.tree.waiting.items
