-- What a difference has written, and what it left.
use Rattle.std.specs.Prelude.{◌⊎◌, ℕ, Bool, true, false, List, Option}
use Rattle.std.specs.Borrow.{Bor}
use Rattle.clap.specs.Words.{Text}
use Rattle.feed_files.specs.Files.{Shelf, Stays}
use Rattle.feed_edit.specs.declared.exporting.Version.{Version}
use Rattle.feed_sites.specs.Reporting.{IsReported, IsUnreported}
use Rattle.feed_sites.specs.declared.difference_fault.DifferenceFault.{DifferenceFault}
use Rattle.view_ribbon.specs.Comparing.{IsComparison, IsNoComparison}
use Rattle.view_ribbon.specs.declared.comparing.Pair.{Pair}
use Rattle.view_ribbon.specs.declared.fault.ComparisonFault.{ComparisonFault}
use Rattle.program_desk.specs.Causes.{comparison_cause, difference_cause}
use Rattle.program_desk.specs.Explained.{IsSilent, Reports}

-- what is reported of a version of a feed and of another feed was written, they hold the same or not; no file has
-- changed
abbrev pub IsCompared : Version → Text → Shelf → Shelf → Option (List ℕ) → Option (List ℕ) → Bool → Type 0
IsCompared one other first last before after same = Stays first last × IsReported one other first before after same

-- they hold the same
abbrev pub AreOne : Version → Text → Shelf → Shelf → Option (List ℕ) → Option (List ℕ) → Type 0
AreOne one other first last before after = IsCompared one other first last before after true

-- they do not; or it was not written, and standard error has the lines on the fault
abbrev pub AreNotOne : Version → Bor Text → Shelf → Shelf → Option (List ℕ) → Option (List ℕ)
    → Bool → Option (List ℕ) → Option (List ℕ) → Type 0
AreNotOne one other first last before after whole quiet said =
    (IsCompared one other.now first last before after false × IsSilent whole quiet said)
    ⊎ (Stays first last × (fault : DifferenceFault) × IsUnreported one other.now first last before after fault
    × Reports (difference_cause one.feed other fault) whole quiet said)

-- what is reported of two ribbons was written, both are cast and alike or not; no file has changed
abbrev pub AreCompared : Pair → Shelf → Shelf → Option (List ℕ) → Option (List ℕ) → Bool → Type 0
AreCompared pair first last before after alike = Stays first last × IsComparison pair first before after alike

abbrev pub AreCastAlike : Pair → Shelf → Shelf → Option (List ℕ) → Option (List ℕ) → Type 0
AreCastAlike pair first last before after = AreCompared pair first last before after true

-- they are not; or it was not written, and standard error has the lines on the fault
abbrev pub AreNotCastAlike : Pair → Shelf → Shelf → Option (List ℕ) → Option (List ℕ) → Bool → Option (List ℕ)
    → Option (List ℕ) → Type 0
AreNotCastAlike pair first last before after whole quiet said =
    (AreCompared pair first last before after false × IsSilent whole quiet said)
    ⊎ (Stays first last × (fault : ComparisonFault) × IsNoComparison pair first last before after fault
    × Reports (comparison_cause pair fault) whole quiet said)
