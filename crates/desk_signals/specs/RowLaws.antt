-- Rows and lawful signals are one to one.
use Rattle.std.specs.Prelude.{◌≡◌, false, ◌↔◌, IsTrue, List}
use Rattle.desk_signals.specs.declared.Signal.{Signal}
use Rattle.desk_signals.specs.declared.RibbonRow.{RibbonRow}
use Rattle.desk_signals.specs.Rows.{IsRow, Spells, signals_of, has, repeats, Repeats}

-- Signals are those of one row at most.
abbrev pub SignalsHaveOneRow : Type 0
SignalsHaveOneRow =
    (signals : List Signal) (a b : RibbonRow) → IsRow a → IsRow b → Spells signals a → Spells signals b → a ≡ b

-- The signals of a row in any order are those that, without repeats, have the row's signals and no others.
abbrev pub RowsAreSignalSets : Type 0
RowsAreSignalSets =
    (signals : List Signal) (row : RibbonRow) → IsRow row →
    (Spells signals row ↔ ((repeats signals ≡ false) × ((x : Signal) → has signals x ≡ has (signals_of row) x)))

-- The test for repeats finds exactly two places with the same signal.
abbrev pub RepeatsAreTwoPlaces : Type 0
RepeatsAreTwoPlaces = (signals : List Signal) → IsTrue (repeats signals) ↔ Repeats signals
