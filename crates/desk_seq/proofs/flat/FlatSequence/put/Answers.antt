use Rattle.std.proofs.Common.{subst, sym}
use Rattle.desk_seq.specs.Entries.{Listing, IsAbsent}
use Rattle.desk_seq.proofs.Entries.{distinct-insert}
use Rattle.desk_seq.proofs.flat.FlatSequence.put.Goals as goal

pub invariant_of-self : goal.invariant_of-self
invariant_of-self g c = rw c.put_in.ensures.put (distinct-insert c.self.inside.items.items c.args.i c.args.entry c.self.invariant (subst (λ (v : Listing). IsAbsent c.args.entry.stamp v.entries) (sym c.self.view_is) c.requires.absent))
