-- A galley as a document in HTML.
use Rattle.std.specs.Prelude.{ℕ, List, ◌++◌}
use Rattle.desk_ops.specs.declared.op.Symbol.{Symbol}
use Rattle.desk_ops.specs.declared.fault.CopyFault.{CopyFault}
use Rattle.view_galley.specs.Values.{GalleyValues}
use Rattle.view_preview.specs.declared.job.Job.{Job}
use Rattle.view_proof.specs.declared.reasons.NoGalley.{NoGalley}
use Rattle.view_pages.specs.Layouts.{layout_of}
use Rattle.view_pages.specs.Names.{heading_text}
use Rattle.view_pages.specs.Pages.{pages_text}
use Rattle.view_pages.specs.Report.{begin_text, refusal_text, report_text}
use Rattle.view_pages.specs.Screen.{size_rule, size_rule_alone}
use Rattle.view_pages.specs.Tags.{document_end}
use Rattle.view_pages.specs.declared.layouts.Layout.{Layout}

-- the pages of a galley that is laid out, behind the first
unfoldable pub galley_pages : Job → List Symbol → GalleyValues → Layout → List ℕ
galley_pages job copy galley layout = pages_text copy galley layout (heading_text job galley.values) ++ document_end

-- the size of its pages on paper
unfoldable pub galley_rule : GalleyValues → (height : ℕ) → List ℕ
galley_rule galley height = size_rule (layout_of galley height).width height

-- a galley of a copy, with the faults of the copy, on pages of so many points
unfoldable pub document_text : Job → (height : ℕ) → List Symbol → List CopyFault → GalleyValues → List ℕ
document_text job height copy faults galley =
    begin_text job ++ (galley_rule galley height
    ++ (report_text job copy faults galley ++ galley_pages job copy galley (layout_of galley height)))

-- where there is no galley: the faults of the copy, and why
unfoldable pub no_galley_document : Job → (height : ℕ) → List CopyFault → NoGalley → List ℕ
no_galley_document job height faults why =
    begin_text job ++ (size_rule_alone height ++ (refusal_text job faults why ++ document_end))
