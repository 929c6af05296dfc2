-- Where the caster takes memory.
use Rattle.std.specs.Prelude.{◌≡◌, ℕ, suc, Bool, true, false, ◌&&◌, is_some, List, ◌∷◌, drop, Option, Ok}
use Rattle.desk_wedge.specs.Wedge.{WedgeValues}
use Rattle.desk_case.specs.Case.{CaseValues}
use Rattle.desk_signals.specs.declared.RibbonRow.{RibbonRow}
use Rattle.desk_signals.specs.declared.RibbonRow.TheVariants as row
use Rattle.desk_caster.specs.Caster.{Begun, State, cast_rows, has_matrix}

-- whether the caster takes memory at a row: it casts a matrix onto the line in progress, or sends that line out
abbrev pub takes_memory : CaseValues → RibbonRow → Option Begun → Bool
takes_memory case (row.FineOut fine) line = is_some line
takes_memory case (row.Coarse coarse) line = false
takes_memory case (row.Cell column n s) line = is_some line && has_matrix case (record { column = column; row = n })

-- The caster comes without a fault to a row at which it takes memory.
pub record MayTakeMemory (case : CaseValues) (wedge : WedgeValues) (rows : List RibbonRow) : Type 0 where
  pub place : ℕ
  pub row : RibbonRow
  pub read : List RibbonRow
  pub there : drop place rows ≡ row ∷ read
  pub state : State
  pub reached : cast_rows case wedge (suc place) read ≡ Ok state
  pub takes : takes_memory case row state.line ≡ true
