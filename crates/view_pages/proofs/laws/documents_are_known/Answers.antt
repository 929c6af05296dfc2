use Rattle.view_pages.proofs.Beginnings.{known_twice}
use Rattle.view_pages.specs.Document.{document_text, no_galley_document}
use Rattle.view_pages.specs.Report.{begin_text}
use Rattle.view_pages.proofs.laws.documents_are_known.Goals as goal

pub returns-clause-galleys : goal.returns-clause-galleys
unfolding document_text begin_text
returns-clause-galleys c job height copy faults galley = known_twice _ _

pub returns-clause-refusals : goal.returns-clause-refusals
unfolding no_galley_document begin_text
returns-clause-refusals c job height faults why = known_twice _ _
