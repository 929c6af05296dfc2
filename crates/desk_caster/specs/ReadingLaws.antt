-- A ribbon has no fault, and bytes are the ribbon of one list of rows at most.
use Rattle.std.specs.Prelude.{◌≡◌, ◌≢◌, ℕ, List}
use Rattle.desk_signals.specs.declared.RibbonRow.{RibbonRow}
use Rattle.desk_caster.specs.declared.RibbonFault.{RibbonFault}
use Rattle.desk_caster.specs.declared.RibbonFault.TheVariants as fault
use Rattle.desk_caster.specs.Reading.{IsRibbon, Reports}

-- No ribbon has a fault.
abbrev pub RibbonsHaveNoFault : Type 0
RibbonsHaveNoFault = (bytes : List ℕ) (rows : List RibbonRow) (why : RibbonFault) → why ≢ fault.NoMemory
    → IsRibbon bytes rows → Reports bytes why → ⊥

-- Bytes are the ribbon of one list of rows at most.
abbrev pub RibbonsHaveOneReading : Type 0
RibbonsHaveOneReading = (bytes : List ℕ) (a b : List RibbonRow) → IsRibbon bytes a → IsRibbon bytes b → a ≡ b
