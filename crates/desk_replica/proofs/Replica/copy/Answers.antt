use Rattle.std.proofs.Common.{◌∙◌, ap}
use Rattle.desk_walk.specs.Following.{entries_of}
use Rattle.desk_replica.proofs.Shows.{copy-is}
use Rattle.desk_replica.proofs.Replica.copy.Goals as goal

pub returns-clause-copy : goal.returns-clause-copy
returns-clause-copy g c =
    c.in_ok-symbols.ensures ∙ copy-is c.args.self.now.ops (g.Q.Sequence.entries c.self.inside.sequence) (c.self.invariant.settled.entries ∙ ap (λ s. entries_of s.ops) c.self.view_is)
