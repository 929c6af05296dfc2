-- What holds of the ribbons that are stored.
use Rattle.std.specs.Prelude.{◌≡◌, List, ◌++◌, Ok, Some}
use Rattle.desk_signals.specs.declared.RibbonRow.{RibbonRow}
use Rattle.desk_case.specs.Case.{CaseValues}
use Rattle.desk_wedge.specs.Wedge.{WedgeValues}
use Rattle.desk_ribbon.specs.Ribbon.{ribbon}
use Rattle.desk_caster.specs.Caster.{Line, cast}
use Rattle.feed_files.specs.Kinds.{kind_of}
use Rattle.feed_files.specs.declared.kinds.Kind.TheVariants as kinds

-- the ribbon of any rows is a ribbon by its first bytes
abbrev pub RibbonsAreKnown : Type 0
RibbonsAreKnown = (rows : List RibbonRow) → kind_of (ribbon rows) ≡ Some kinds.Ribbon

-- Where each of two lists of rows is cast without a fault, they cast, one after the other, the lines of the first and
-- then those of the second.
abbrev pub AreCastInOrder : Type 0
AreCastInOrder = (case : CaseValues) (wedge : WedgeValues) (a b : List RibbonRow) (m n : List Line)
    → cast case wedge a ≡ Ok m → cast case wedge b ≡ Ok n → cast case wedge (a ++ b) ≡ Ok (m ++ n)
