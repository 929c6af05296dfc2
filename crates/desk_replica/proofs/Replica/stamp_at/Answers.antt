use Rattle.std.proofs.Common.{◌≡◌, ◌≤◌, ◌∙◌, ap, refl, arith, length}
use Rattle.desk_ops.specs.Shown.{shown_of}
use Rattle.desk_seq.specs.Entries.{shown_in}
use Rattle.desk_walk.specs.Following.{entries_of}
use Rattle.desk_replica.proofs.Shows.{shown-stamp, count-is}
use Rattle.desk_replica.proofs.Replica.stamp_at.Goals as goal

pub returns-in-Some-clause-within : goal.returns-in-Some-clause-within
returns-in-Some-clause-within g c =
    (shown-stamp c.args.self.now.ops (g.Q.Sequence.entries c.self.inside.sequence) (c.self.invariant.settled.entries ∙ ap (λ s. entries_of s.ops) c.self.view_is) c.args.place c.in-Some.at c.in-Some.ensures.found c.entry.result c.entry.ensures).0

pub returns-in-Some-clause-is : goal.returns-in-Some-clause-is
returns-in-Some-clause-is g c =
    (shown-stamp c.args.self.now.ops (g.Q.Sequence.entries c.self.inside.sequence) (c.self.invariant.settled.entries ∙ ap (λ s. entries_of s.ops) c.self.view_is) c.args.place c.in-Some.at c.in-Some.ensures.found c.entry.result c.entry.ensures).1

pub returns-in-None-clause-none : goal.returns-in-None-clause-none
returns-in-None-clause-none g c = λ _.
    let n : shown_in (g.Q.Sequence.entries c.self.inside.sequence) ≡ length (shown_of c.args.self.now.ops) = count-is c.args.self.now.ops (g.Q.Sequence.entries c.self.inside.sequence) (c.self.invariant.settled.entries ∙ ap (λ s. entries_of s.ops) c.self.view_is) in
    let l : shown_in (g.Q.Sequence.entries c.self.inside.sequence) ≤ c.args.place = c.in-None.ensures.none refl in
    omega (arith, n, l)
