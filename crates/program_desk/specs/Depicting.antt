-- The picture of a galley and its document: whether they are there, what was left, and what standard error has.
use Rattle.std.specs.Prelude.{◌≡◌, ◌⊎◌, ℕ, Bool, List, Option, Some, None}
use Rattle.std.specs.Borrow.{Bor}
use Rattle.std.specs.Option.{option_copied}
use Rattle.desk_replica.specs.declared.settings.Settings.{Settings}
use Rattle.feed_files.specs.Files.{Shelf}
use Rattle.feed_files.specs.Outputs.{Destination, destination}
use Rattle.view_pages.specs.Documenting.{IsDocumented, IsUndocumented}
use Rattle.view_pages.specs.Numbering.{ArePaged, AreUnpaged}
use Rattle.view_picture.specs.Picturing as whole_picture
use Rattle.view_preview.specs.declared.fault.PreviewFault.{PreviewFault}
use Rattle.view_preview.specs.declared.job.Job.{Job}
use Rattle.program_desk.specs.Causes.{name_of, proof_cause}
use Rattle.program_desk.specs.Explained.{ReportsMore, StaysSo}
use Rattle.program_desk.specs.declared.causes.Cause.{Cause}
use Rattle.program_desk.specs.declared.causes.Cause.TheVariants as causes
use Rattle.program_desk.specs.declared.causes.Output.TheVariants as outputs
use Rattle.program_desk.specs.declared.previews.Preview.{Preview}

-- ---- the two

-- the height of a document's pages: where none is given that of a4
abbrev pub height_of : Option ℕ → ℕ
height_of (Some height) = height
height_of None = 842

-- a picture was stored: whole, or in pages of a height
abbrev pub IsPictured : Job → Settings → Option ℕ → Destination → Shelf → Shelf → Type 0
IsPictured from trial None to first last = whole_picture.IsPictured from trial to first last
IsPictured from trial (Some height) to first last = ArePaged from trial height to first last

-- it was not, for this fault
abbrev pub IsUnpictured : Job → Settings → Option ℕ → Destination → Shelf → Shelf → PreviewFault → Type 0
IsUnpictured from trial None to first last fault = whole_picture.IsUnpictured from trial to first last fault
IsUnpictured from trial (Some height) to first last fault = AreUnpaged from trial height to first last fault

-- the picture that is asked for is stored, if one is; it took the place of another file only by force
abbrev pub IsPictureThere : Preview → Settings → Option (List ℕ) → Shelf → Shelf → Type 0
IsPictureThere asked trial None first last = last ≡ first
IsPictureThere asked trial (Some target) first last =
    IsPictured asked.job trial asked.drawings.page (destination target asked.drawings.force) first last

-- one is asked for, and it is not; what was written on standard error goes on by the lines on the fault
abbrev pub IsPictureAbsent : Preview → Settings → Option (Bor (List ℕ)) → Shelf → Shelf → Bool → Bool
    → Option (List ℕ) → Option (List ℕ) → Type 0
IsPictureAbsent asked trial None first last begun whole quiet said = ⊥
IsPictureAbsent asked trial (Some target) first last begun whole quiet said =
    (fault : PreviewFault)
    × IsUnpictured asked.job trial asked.drawings.page (destination target.now asked.drawings.force) first last fault
    × ReportsMore (proof_cause asked.job target fault) begun whole quiet said

-- so of the document
abbrev pub IsDocumentThere : Preview → Settings → Option (List ℕ) → Shelf → Shelf → Type 0
IsDocumentThere asked trial None first last = last ≡ first
IsDocumentThere asked trial (Some target) first last =
    IsDocumented asked.job trial (height_of asked.drawings.page) (destination target asked.drawings.force) first last

abbrev pub IsDocumentAbsent : Preview → Settings → Option (Bor (List ℕ)) → Shelf → Shelf → Bool → Bool
    → Option (List ℕ) → Option (List ℕ) → Type 0
IsDocumentAbsent asked trial None first last begun whole quiet said = ⊥
IsDocumentAbsent asked trial (Some target) first last begun whole quiet said =
    (fault : PreviewFault)
    × IsUndocumented asked.job trial (height_of asked.drawings.page) (destination target.now asked.drawings.force)
    first last fault
    × ReportsMore (proof_cause asked.job target fault) begun whole quiet said

-- ---- both

-- the picture was stored, and then the document, each if it is asked for
abbrev pub AreThere : Preview → Settings → Shelf → Shelf → Type 0
AreThere asked trial first last =
    (middle : Shelf) × IsPictureThere asked trial (option_copied asked.drawings.picture) first middle
    × IsDocumentThere asked trial (option_copied asked.drawings.document) middle last

-- the document was stored, if it is asked for; or it was not, and standard error says why
abbrev pub DocumentEnds : Preview → Settings → Shelf → Shelf → Bool → Bool → Option (List ℕ) → Option (List ℕ) → Type 0
DocumentEnds asked trial first last begun whole quiet said =
    (IsDocumentThere asked trial (option_copied asked.drawings.document) first last × StaysSo begun whole quiet said)
    ⊎ IsDocumentAbsent asked trial asked.drawings.document first last begun whole quiet said

-- the picture was not stored, and the document was or was not; or the picture was, and the document not
abbrev pub AreAbsent : Preview → Settings → Shelf → Shelf → Bool → Bool → Option (List ℕ) → Option (List ℕ) → Type 0
AreAbsent asked trial first last begun whole quiet said =
    (middle : Shelf) × (half : Bool) × (between : Option (List ℕ))
    × ((IsPictureAbsent asked trial asked.drawings.picture first middle begun half quiet between
    × DocumentEnds asked trial middle last half whole between said)
    ⊎ (IsPictureThere asked trial (option_copied asked.drawings.picture) first middle
    × StaysSo begun half quiet between
    × IsDocumentAbsent asked trial asked.drawings.document middle last half whole between said))

-- ---- names that do not go together

-- the name is one of those of what an output is made of
abbrev pub IsSource : (name case wedge target : List ℕ) → Type 0
IsSource name case wedge target = (target ≡ name) ⊎ (target ≡ case) ⊎ (target ≡ wedge)

-- so of a galley
abbrev pub IsSourceOf : Job → List ℕ → Type 0
IsSourceOf from target = IsSource (name_of from.source).now from.case.now from.wedge.now target

-- the name is that of a picture
abbrev pub IsNameOf : Option (Bor (List ℕ)) → List ℕ → Type 0
IsNameOf None target = ⊥
IsNameOf (Some name) target = name.now ≡ target

-- the picture would take the place of what the galley is made of
abbrev pub PictureTakes : Preview → Cause → Type 0
PictureTakes asked cause =
    (target : Bor (List ℕ)) × (asked.drawings.picture ≡ Some target) × IsSourceOf asked.job target.now
    × (cause ≡ causes.Source target outputs.Picture)

-- so would the document, or it would take that of the picture
abbrev pub DocumentTakes : Preview → Cause → Type 0
DocumentTakes asked cause =
    (target : Bor (List ℕ)) × (asked.drawings.document ≡ Some target)
    × (IsNameOf asked.drawings.picture target.now ⊎ IsSourceOf asked.job target.now)
    × (cause ≡ causes.Source target outputs.Document)

-- this is so of a cause, or of none
abbrev pub IsOrNone : (Cause → Type 0) → Option Cause → Type 0
IsOrNone So (Some cause) = So cause
IsOrNone So None = (cause : Cause) → So cause → ⊥

-- why nothing is begun, or that no drawing takes such a place
abbrev pub IsMisplaced : Preview → Option Cause → Type 0
IsMisplaced asked = IsOrNone (λ cause. PictureTakes asked cause ⊎ DocumentTakes asked cause)
