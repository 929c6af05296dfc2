use Rattle.desk_job.proofs.Paragraphs.{paragraph_from}
use Rattle.view_galley.proofs.galley.add_paragraph.Goals as goal

pub add_groups-requires-clause-ranges : goal.add_groups-requires-clause-ranges
add_groups-requires-clause-ranges g c =
    (paragraph_from c.args.terms.now c.args.copy.now c.args.words.now _ _ _ _ _ _ c.deref.ensures.value c.in_ok-widths.ensures.value
    c.tight_space.ensures.value c.measure.ensures.value c.deref-3.ensures.value c.in_ok-groups.ensures.ok).1
