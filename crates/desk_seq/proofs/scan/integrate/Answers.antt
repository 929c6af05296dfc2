use Rattle.std.proofs.Common.{List, subst}
use Rattle.desk_seq.specs.declared.Entry.{Entry}
use Rattle.desk_seq.specs.Entries.{KeepsWalk}
use Rattle.desk_seq.proofs.Entries.{keeps-walk}
use Rattle.desk_seq.proofs.scan.integrate.Goals as goal

pub returns-clause-walk : goal.returns-clause-walk
returns-clause-walk g c =
    let new = g.Q.Sequence.entries c.integrate_at.new.sequence in
    let first = c.integrate_at.ensures.first in
    subst (λ (es : List Entry). KeepsWalk es new c.args.parent c.args.entry.stamp) c.prepare_find.ensures.same
    (keeps-walk _ _ c.args.parent c.args.entry c.integrate_at.result (record { start = c.start_of-from.result; starts = c.start_of-from.ensures.start; after = first.after; within = first.within; skipped = first.skipped; stops = first.stops }) c.integrate_at.ensures.put)
