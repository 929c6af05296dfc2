-- The ribbon of a first feed, and the rows of another added to a ribbon.
use Rattle.std.specs.Prelude.{◌≡◌, ◌⊎◌, ◌≤◌, ℕ, Bool, List, [], ◌++◌, length, Option}
use Rattle.desk_ops.specs.OpSet.{OpSet}
use Rattle.desk_ops.specs.Settings.{setting_of}
use Rattle.desk_ops.specs.Shown.{copy_of}
use Rattle.desk_signals.specs.declared.RibbonRow.{RibbonRow}
use Rattle.desk_case.specs.Case.{CaseValues}
use Rattle.desk_wedge.specs.Wedge.{WedgeValues}
use Rattle.desk_ribbon.specs.Ribbon.{ribbon}
use Rattle.desk_job.specs.Reading.{CastsCopy}
use Rattle.feed_files.specs.Files.{Shelf, max_file}
use Rattle.feed_edit.specs.Exporting.{IsSetOf}
use Rattle.view_preview.specs.declared.fault.PreviewFault.{PreviewFault}
use Rattle.view_punch.specs.Joining.{AreJoined}
use Rattle.view_punch.specs.Making.{IsMadeOf}
use Rattle.view_punch.specs.Punching.{GiveMetal, IsUnadded, IsUnbegun}
use Rattle.view_punch.specs.declared.punching.Galleys.{Galleys}

-- the name stands for a feed with a job, and the bytes are the ribbon of its rows, which casts its lines
abbrev pub IsRibbonOf : Bool → CaseValues → WedgeValues → Shelf → List ℕ → List ℕ → Type 0
IsRibbonOf faulty case wedge shelf feed bytes =
    (set : OpSet) × IsSetOf feed shelf set × IsMadeOf faulty set case wedge bytes
    × CastsCopy (copy_of set) (setting_of set) case wedge bytes

-- the case and the wedge are given, and the bytes are the ribbon of the first feed, which is not too long
abbrev pub IsBegun : Galleys → Bool → Shelf → List ℕ → CaseValues → WedgeValues → Type 0
IsBegun from faulty shelf bytes case wedge = GiveMetal from shelf case wedge
    × IsRibbonOf faulty case wedge shelf from.first.now bytes × (length bytes ≤ max_file)

-- why there is none of it
abbrev pub IsUnbegunAt : Galleys → Bool → (first last : Shelf) → (before after : Option (List ℕ)) → PreviewFault
    → Type 0
IsUnbegunAt from faulty first last before after fault =
    IsUnbegun from first last before after fault
    ⊎ ((case : CaseValues) × (wedge : WedgeValues) × GiveMetal from first case wedge
    × IsUnadded faulty case wedge from.first.now [] first last before after fault)

-- the rows of a feed were added to a ribbon
abbrev pub Adds : Bool → CaseValues → WedgeValues → Shelf → List ℕ → (one joined : List ℕ) → Type 0
Adds faulty case wedge shelf feed one joined =
    (next : List ℕ) × IsRibbonOf faulty case wedge shelf feed next × AreJoined one next joined

-- why they were not, whatever rows the ribbon has
abbrev pub IsUnaddedTo : Bool → CaseValues → WedgeValues → List ℕ → List ℕ → (first last : Shelf)
    → (before after : Option (List ℕ)) → PreviewFault → Type 0
IsUnaddedTo faulty case wedge feed one first last before after fault =
    (rows : List RibbonRow) → one ≡ ribbon rows
    → IsUnadded faulty case wedge feed rows first last before after fault
