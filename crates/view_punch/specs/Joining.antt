-- Ribbons one after the other, as one ribbon.
use Rattle.std.specs.Prelude.{◌≡◌, ◌<◌, ◌⊎◌, ℕ, List, ◌++◌, length}
use Rattle.desk_signals.specs.declared.RibbonRow.{RibbonRow}
use Rattle.desk_ribbon.specs.Ribbon.{ribbon}
use Rattle.feed_files.specs.Files.{max_file}
use Rattle.view_preview.specs.declared.fault.PreviewFault.{PreviewFault}
use Rattle.view_preview.specs.declared.fault.PreviewFault.TheVariants as faults

-- where bytes are the ribbons of rows, and of more, the joined ones are the ribbon of these and those
abbrev pub AreJoined : (one next joined : List ℕ) → Type 0
AreJoined one next joined = (rows more : List RibbonRow) → one ≡ ribbon rows → next ≡ ribbon more
    → joined ≡ ribbon (rows ++ more)

-- so many bytes are too many
abbrev pub IsTooLong : ℕ → PreviewFault → Type 0
IsTooLong bytes fault = (fault ≡ faults.TooLong) × (max_file < bytes)

-- why ribbons were not joined: the ribbon of these rows and those would be too long, or memory ran out
abbrev pub IsUnjoined : (one next : List ℕ) → PreviewFault → Type 0
IsUnjoined one next fault =
    ((rows more : List RibbonRow) → one ≡ ribbon rows → next ≡ ribbon more
    → IsTooLong (length (ribbon (rows ++ more))) fault)
    ⊎ (fault ≡ faults.NoMemory)
