-- The comparison of two ribbons by their files, written as text.
use Rattle.std.specs.Prelude.{◌≡◌, ◌⊎◌, ℕ, Bool, List, Option, Result, Ok, Err}
use Rattle.std.specs.Io.KnownBytes.{Appends}
use Rattle.desk_case.specs.Case.{CaseValues}
use Rattle.desk_wedge.specs.Wedge.{WedgeValues}
use Rattle.feed_files.specs.Files.{IsCounted, Reads, Shelf}
use Rattle.feed_files.specs.declared.files.FileRefusal.{FileRefusal}
use Rattle.feed_files.specs.declared.files.FileRefusal.TheVariants as files
use Rattle.feed_stored.specs.Sending.{WritesPrefix}
use Rattle.view_ribbon.specs.Casting.{Cast, IsOutcome}
use Rattle.view_ribbon.specs.Differences.{are_alike, comparison_text}
use Rattle.view_ribbon.specs.Sources.{AreRefused, Give}
use Rattle.view_ribbon.specs.declared.comparing.Pair.{Pair}
use Rattle.view_ribbon.specs.declared.sources.Sources.{Sources}
use Rattle.view_ribbon.specs.declared.fault.ComparisonFault.{ComparisonFault}
use Rattle.view_ribbon.specs.declared.fault.ComparisonFault.TheVariants as faults
use Rattle.view_ribbon.specs.declared.fault.SourcesFault.{SourcesFault}
use Rattle.view_ribbon.specs.declared.fault.SourcesFault.TheVariants as refusals

-- what a first ribbon's file that is not read is for a comparison
abbrev pub of_one : FileRefusal → ComparisonFault
of_one files.Missing = faults.One files.Missing
of_one files.Device = faults.One files.Device
of_one files.Large = faults.One files.Large
of_one files.NoMemory = faults.NoMemory

-- and what other sources that give nothing are
abbrev pub of_others : SourcesFault → ComparisonFault
of_others (refusals.Ribbon why) = faults.Other why
of_others (refusals.Input why) = faults.Input why
of_others refusals.NoMemory = faults.NoMemory

-- the second ribbon, the case and the wedge
abbrev pub others_of : Pair → Sources
others_of pair = record { ribbon = pair.other; case = pair.case; wedge = pair.wedge }

-- the names of the ribbons stand for these bytes, and the two files give this case and this wedge
abbrev pub PairGives : Pair → Shelf → (one other : List ℕ) → CaseValues → WedgeValues → Type 0
PairGives pair shelf one other case wedge =
    Reads (shelf.kept pair.one.now) (Ok one) × Give (others_of pair) shelf other case wedge

abbrev pub PairGivesAll : Pair → Shelf → Type 0
PairGivesAll pair shelf = (one other : List ℕ) × (case : CaseValues) × (wedge : WedgeValues)
    × PairGives pair shelf one other case wedge

-- the first ribbon is not read
abbrev pub IsOneRefused : Pair → Shelf → Shelf → FileRefusal → Type 0
IsOneRefused pair before after why = Reads (before.kept pair.one.now) (Err why) × IsCounted why before after

-- the first ribbon is read, and then the second is not, or the case or the wedge is refused
abbrev pub AreOthersRefused : Pair → Shelf → Shelf → SourcesFault → Type 0
AreOthersRefused pair before after why =
    (one : List ℕ) × Reads (before.kept pair.one.now) (Ok one) × AreRefused (others_of pair) before after why

-- why the pair gives nothing
abbrev pub IsPairRefused : Pair → Shelf → Shelf → ComparisonFault → Type 0
IsPairRefused pair before after fault =
    ((why : FileRefusal) × (fault ≡ of_one why) × IsOneRefused pair before after why)
    ⊎ ((why : SourcesFault) × (fault ≡ of_others why) × AreOthersRefused pair before after why)

-- this is written of the bytes of two ribbons, and both are cast alike or not
abbrev pub IsCompared : (one other : List ℕ) → (first second : List ℕ) → CaseValues → WedgeValues → List ℕ → Bool
    → Type 0
IsCompared one other first second case wedge reported alike =
    (a b : Result Cast (List ℕ)) × IsOutcome first case wedge a × IsOutcome second case wedge b
    × (reported ≡ comparison_text wedge.pica one other a b) × (alike ≡ are_alike a b)

-- the same of the bytes that the names of the ribbons stand for, by the case and the wedge that the two files give
abbrev pub IsComparisonOf : Pair → Shelf → List ℕ → Bool → Type 0
IsComparisonOf pair shelf reported alike =
    (one other : List ℕ) × (case : CaseValues) × (wedge : WedgeValues) × PairGives pair shelf one other case wedge
    × IsCompared pair.one.now pair.other.now one other case wedge reported alike

-- it was written
abbrev pub IsComparison : Pair → Shelf → Option (List ℕ) → Option (List ℕ) → Bool → Type 0
IsComparison pair shelf before after alike =
    (reported : List ℕ) × IsComparisonOf pair shelf reported alike × Appends before after reported

-- Why not all of it was written, and what was: nothing, where the pair gives nothing, or memory ran out once it had
-- given all; or a prefix, under Write.
abbrev pub IsNoComparison : Pair → Shelf → Shelf → Option (List ℕ) → Option (List ℕ) → ComparisonFault → Type 0
IsNoComparison pair first last before after fault =
    ((after ≡ before) × IsPairRefused pair first last fault)
    ⊎ ((after ≡ before) × (fault ≡ faults.NoMemory) × (last ≡ first) × PairGivesAll pair first)
    ⊎ ((fault ≡ faults.Write) × (last ≡ first) × (reported : List ℕ) × (alike : Bool)
    × IsComparisonOf pair first reported alike × WritesPrefix before after reported)
