-- The pages of the galley of a stored feed or of a text, each stored as a picture under a name with its number.
use Rattle.std.specs.Prelude.{◌≡◌, ◌⊎◌, ◌<◌, ◌≤◌, ◌==◌, ℕ, ◌+◌, Bool, false, List, [], ◌∷◌, ◌++◌, codes, length}
use Rattle.std.specs.Prelude.{Option, Some, None, drop, take, if◌then◌else◌}
use Rattle.std.specs.List.{list_any}
use Rattle.std.specs.Fmt.{decimal}
use Rattle.std.specs.Path.{rfind_below}
use Rattle.desk_replica.specs.declared.settings.Settings.{Settings}
use Rattle.view_galley.specs.Values.{GalleyValues}
use Rattle.view_proof.specs.declared.reasons.NoGalley.{NoGalley}
use Rattle.feed_files.specs.Files.{IsReplaced, Shelf, Stays}
use Rattle.feed_files.specs.Outputs.{Destination, GivesWay, IsNotPut, destination}
use Rattle.feed_files.specs.declared.output_fault.OutputFault.{OutputFault}
use Rattle.feed_files.specs.declared.kinds.Kind.TheVariants as kinds
use Rattle.view_preview.specs.Faults.{of_output}
use Rattle.view_preview.specs.Matter.{HasGalley, HasNone, MatterValues}
use Rattle.view_preview.specs.Proofing.{name_of}
use Rattle.view_preview.specs.Sources.{of_sources}
use Rattle.view_preview.specs.Taking.{Gives, GivesAll, GivesNone}
use Rattle.view_preview.specs.declared.job.Job.{Job}
use Rattle.view_preview.specs.declared.fault.PreviewFault.{PreviewFault}
use Rattle.view_preview.specs.declared.fault.PreviewFault.TheVariants as faults
use Rattle.view_preview.specs.declared.fault.SourcesFault.{SourcesFault}
use Rattle.view_picture.specs.Picturing.{IsPictured, IsUnpictured}
use Rattle.view_pages.specs.Alone.{pictures_of}
use Rattle.view_pages.specs.Layouts.{layout_of}

-- ---- names

-- a text has a slash
abbrev pub has_slash : List ℕ → Bool
has_slash text = list_any (λ byte. byte == 47) text

-- the place of the last point of a name, unless a slash is behind it: what is behind it is no ending of a file then
abbrev pub ending_from : List ℕ → Option ℕ → Option ℕ
ending_from name None = None
ending_from name (Some at) = if has_slash (drop at name) then None else Some at

-- where the ending of a name begins, with its point
abbrev pub ending_at : List ℕ → Option ℕ
ending_at name = ending_from name (rfind_below 46 name (length name))

-- a name with a number at this place, or behind it
abbrev pub numbered : List ℕ → ℕ → Option ℕ → List ℕ
numbered name number None = name ++ (codes "." ++ decimal number)
numbered name number (Some at) = take at name ++ (codes "." ++ (decimal number ++ drop at name))

-- the name of the page of this number: the number stands before the ending
abbrev pub page_name : List ℕ → ℕ → List ℕ
page_name name number = numbered name number (ending_at name)

-- ---- what is stored

-- a name is one of those of what is drawn
abbrev pub IsSource : Job → List ℕ → Type 0
IsSource job name = (name ≡ name_of job.source) ⊎ (name ≡ job.case.now) ⊎ (name ≡ job.wedge.now)

-- a picture is stored under a name that is none of what is drawn, where nothing stood but a picture
abbrev pub IsPut : Job → (name text : List ℕ) → Shelf → Shelf → Type 0
IsPut job name text before after = (IsSource job name → ⊥)
    × GivesWay (destination name false) kinds.Picture before.kept × IsReplaced name text before.kept after.kept

-- why it was not stored: its name is one of those of what is drawn; or memory ran out; or another file stands there, or
-- the file failed
abbrev pub IsUnput : Job → (name : List ℕ) → Shelf → Shelf → PreviewFault → Type 0
IsUnput job name before after fault =
    ((fault ≡ faults.Taken kinds.Other) × IsSource job name × (after ≡ before))
    ⊎ ((fault ≡ faults.NoMemory) × (after ≡ before))
    ⊎ ((why : OutputFault) × (fault ≡ of_output why) × IsNotPut (destination name false) kinds.Picture before after why)

-- pages from one of this number on stand under their names, stored in their order
abbrev pub ArePut : Job → (name : List ℕ) → (number : ℕ) → List (List ℕ) → Shelf → Shelf → Type 0
ArePut job name number [] first last = last ≡ first
ArePut job name number (text ∷ texts) first last =
    (next : Shelf) × IsPut job (page_name name number) text first next
    × ArePut job name (number + 1) texts next last

-- one of them was not stored, and those before it were
abbrev pub AreUnput : Job → (name : List ℕ) → (number : ℕ) → List (List ℕ) → Shelf → Shelf → PreviewFault → Type 0
AreUnput job name number [] first last fault = ⊥
AreUnput job name number (text ∷ texts) first last fault =
    IsUnput job (page_name name number) first last fault
    ⊎ ((next : Shelf) × IsPut job (page_name name number) text first next
    × AreUnput job name (number + 1) texts next last fault)

-- ---- what is drawn

-- a galley has more than one page of so many points
abbrev pub IsLong : GalleyValues → (height : ℕ) → Type 0
IsLong galley height = 1 < (layout_of galley height).pages

-- these are the pages of its galley, by its settings and those that are tried, and they are more than one
abbrev pub ShowsPages : Job → MatterValues → Settings → (height : ℕ) → List (List ℕ) → Type 0
ShowsPages job matter trial height texts = (galley : GalleyValues) × HasGalley matter trial galley
    × IsLong galley height × (texts ≡ pictures_of job height matter.copy matter.faults galley)

-- its galley has one page or none, or it has no galley
abbrev pub IsShort : MatterValues → Settings → (height : ℕ) → Type 0
IsShort matter trial height =
    ((galley : GalleyValues) × HasGalley matter trial galley × ((layout_of galley height).pages ≤ 1))
    ⊎ ((why : NoGalley) × HasNone matter trial why)

-- what a job gives has so many pages as pictures, or is short
abbrev pub GivesPages : Job → Shelf → Settings → (height : ℕ) → List (List ℕ) → Type 0
GivesPages job shelf trial height texts = (matter : MatterValues) × Gives job shelf matter
    × ShowsPages job matter trial height texts

abbrev pub GivesShort : Job → Shelf → Settings → (height : ℕ) → Type 0
GivesShort job shelf trial height = (matter : MatterValues) × Gives job shelf matter × IsShort matter trial height

-- Each page of a long galley stands under its name with its number; a short one's picture stands under the name itself.
abbrev pub ArePaged : Job → Settings → (height : ℕ) → Destination → Shelf → Shelf → Type 0
ArePaged job trial height to before after =
    ((texts : List (List ℕ)) × GivesPages job before trial height texts × ArePut job to.name 1 texts before after)
    ⊎ (GivesShort job before trial height × IsPictured job trial to before after)

-- why there is nothing to store: the job gives nothing; or memory ran out once it had given all
abbrev pub IsUndrawn : Job → Shelf → Shelf → PreviewFault → Type 0
IsUndrawn job first last fault =
    (Stays first last × (why : SourcesFault) × (fault ≡ of_sources why) × GivesNone job first last why)
    ⊎ ((fault ≡ faults.NoMemory) × (last ≡ first) × GivesAll job first)

-- Why not all were stored: that; or a page was not stored, and those before it were; or the picture of a short one was
-- not stored.
abbrev pub AreUnpaged : Job → Settings → (height : ℕ) → Destination → Shelf → Shelf → PreviewFault → Type 0
AreUnpaged job trial height to first last fault =
    IsUndrawn job first last fault
    ⊎ ((texts : List (List ℕ)) × GivesPages job first trial height texts
    × AreUnput job to.name 1 texts first last fault)
    ⊎ (GivesShort job first trial height × IsUnpictured job trial to first last fault)
