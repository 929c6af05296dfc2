use Rattle.desk_held.proofs.Joins.{IsGained}
use Rattle.desk_held.proofs.Held.add_each.Given as goal

-- what was gained, and the room that is left
abbrev pub invariant-loop-taken : goal.invariant-loop-taken
invariant-loop-taken g l = IsGained l.initial.self.ops l.self.ops l.initial.self.spare l.self.spare l.ops l.taken
