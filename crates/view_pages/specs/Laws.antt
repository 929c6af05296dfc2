-- What holds of documents and of their pages.
use Rattle.std.specs.Prelude.{◌≡◌, ◌≤◌, ◌<◌, ℕ, zero, suc, ◌+◌, ◌*◌, List, [], ◌++◌, Some, length}
use Rattle.std.specs.Int.{div_ceil}
use Rattle.desk_ops.specs.declared.op.Symbol.{Symbol}
use Rattle.desk_ops.specs.declared.fault.CopyFault.{CopyFault}
use Rattle.feed_files.specs.Kinds.{kind_of}
use Rattle.feed_files.specs.declared.kinds.Kind.TheVariants as kinds
use Rattle.view_galley.specs.Values.{GalleyValues, LineValues}
use Rattle.view_preview.specs.declared.job.Job.{Job}
use Rattle.view_proof.specs.declared.reasons.NoGalley.{NoGalley}
use Rattle.view_pages.specs.Document.{document_text, no_galley_document}
use Rattle.view_pages.specs.Layouts.{height_of, layout_of, lines_on}

-- the document of a galley is a document by its first bytes
abbrev pub DocumentsAreKnown : Type 0
DocumentsAreKnown = (job : Job) (height : ℕ) (copy : List Symbol) (faults : List CopyFault) (galley : GalleyValues)
    → kind_of (document_text job height copy faults galley) ≡ Some kinds.Document

-- so is that which says why there is none
abbrev pub RefusalsAreKnown : Type 0
RefusalsAreKnown = (job : Job) (height : ℕ) (faults : List CopyFault) (why : NoGalley)
    → kind_of (no_galley_document job height faults why) ≡ Some kinds.Document

-- the lines of so many pages one after the other, from this one on
abbrev pub lines_from : {X : Type 0} → (count number pages : ℕ) → List X → List X
lines_from count number zero lines = []
lines_from count number (suc pages) lines = lines_on count number lines ++ lines_from count (number + 1) pages lines

-- those of all pages of a galley are its lines, in their order and each once
abbrev pub PagesHaveAllLines : Type 0
PagesHaveAllLines = (galley : GalleyValues) (height : ℕ)
    → lines_from (layout_of galley height).lines 0 (layout_of galley height).pages galley.lines ≡ galley.lines

-- each page but the last has as many lines as fit, or one
abbrev pub PagesAreFull : Type 0
PagesAreFull = (galley : GalleyValues) (height number : ℕ) → number + 1 < (layout_of galley height).pages
    → length (lines_on (layout_of galley height).lines number galley.lines) ≡ (layout_of galley height).lines

-- Where so many points are enough for one line, a page is so high, and the frame of its lines is on it with 10 points
-- below.
abbrev pub PagesFit : Type 0
PagesFit = (galley : GalleyValues) (height number : ℕ) → height_of (layout_of galley height).paper 1 ≤ height * 100
    → ((layout_of galley height).height ≡ height * 100)
    × (height_of (layout_of galley height).paper (length (lines_on (layout_of galley height).lines number galley.lines))
    ≤ height * 100)
