use Rattle.view_preview.proofs.Galleys.{have_words}
use Rattle.view_pages.proofs.document.document_of.Goals as goal

pub put_report-requires : goal.put_report-requires
put_report-requires g c = have_words c.args.copy.now c.args.galley.now.terms.case c.args.galley.now.lines c.requires.lines
