use Rattle.std.proofs.Common.{List, subst, sym}
use Rattle.std.specs.Prelude.{OnOk}
use Rattle.desk_job.specs.Job.{SetLine}
use Rattle.desk_job.specs.Making.{Adds, CanAdd}
use Rattle.desk_job.proofs.Paragraphs.{paragraph_from}
use Rattle.desk_job.proofs.making.Making.add_paragraph.Goals as goal

pub add_groups-requires-clause-ranges : goal.add_groups-requires-clause-ranges
add_groups-requires-clause-ranges g c =
    (paragraph_from c.args.terms.now c.args.copy.now c.args.words.now _ _ _ _ _ _ c.deref.ensures.value c.in_ok-widths.ensures.value
    c.tight_space.ensures.value c.measure.ensures.value c.deref-3.ensures.value c.in_ok-groups.ensures.ok).1

pub add_groups-requires-clause-can_add : goal.add_groups-requires-clause-can_add
add_groups-requires-clause-can_add g c =
    subst (λ (ls : List SetLine). CanAdd c.args.terms.now ls c.args.self.now)
    (sym (paragraph_from c.args.terms.now c.args.copy.now c.args.words.now _ _ _ _ _ _ c.deref.ensures.value c.in_ok-widths.ensures.value
    c.tight_space.ensures.value c.measure.ensures.value c.deref-3.ensures.value c.in_ok-groups.ensures.ok).0)
    c.requires.can_add

pub returns-clause-ok : goal.returns-clause-ok
returns-clause-ok g c =
    subst (λ (ls : List SetLine). OnOk c.add_groups.result (Adds c.args.terms.now ls c.args.self.now c.add_groups.new.self))
    (paragraph_from c.args.terms.now c.args.copy.now c.args.words.now _ _ _ _ _ _ c.deref.ensures.value c.in_ok-widths.ensures.value
    c.tight_space.ensures.value c.measure.ensures.value c.deref-3.ensures.value c.in_ok-groups.ensures.ok).0
    c.add_groups.ensures.ok
