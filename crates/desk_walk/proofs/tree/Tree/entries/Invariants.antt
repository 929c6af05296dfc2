use Rattle.desk_walk.proofs.Walking.{IsWalking}
use Rattle.desk_walk.proofs.tree.Tree.entries.Given as goal

-- the entries so far, and what is left of the walk
abbrev pub invariant-loop-passed : goal.invariant-loop-passed
invariant-loop-passed g l = IsWalking l.held.ops l.self.nodes.items l.self.count l.k l.passed l.entries.items
