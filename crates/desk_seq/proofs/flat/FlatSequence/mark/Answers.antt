use Rattle.desk_seq.proofs.Entries.{set-mark, distinct-mark}
use Rattle.desk_seq.proofs.flat.FlatSequence.mark.Goals as goal

pub invariant_of-self : goal.invariant_of-self
invariant_of-self g c = rw (c.index_mut.ensures.value, set-mark c.self.inside.items.items c.args.i) (distinct-mark c.self.inside.items.items c.args.i c.self.invariant)

pub returns-clause-marked : goal.returns-clause-marked
returns-clause-marked g c = rw (← c.self.view_is, c.index_mut.ensures.value) (set-mark c.self.inside.items.items c.args.i _)
