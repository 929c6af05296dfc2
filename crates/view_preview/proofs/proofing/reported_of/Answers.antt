use Rattle.view_preview.proofs.Galleys.{have_words}
use Rattle.view_preview.proofs.proofing.reported_of.Goals as goal

pub written_of-requires : goal.written_of-requires
written_of-requires g c =
    let matter = c.args.matter.now in
    have_words matter.copy matter.case c.in-Ok.galley.lines c.in-Ok.ensures.stands
