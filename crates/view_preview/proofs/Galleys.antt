-- The lines of a galley.
use Rattle.std.proofs.Common.{List}
use Rattle.std.specs.List.{All}
use Rattle.desk_ops.specs.declared.op.Symbol.{Symbol}
use Rattle.desk_case.specs.Case.{CaseValues}
use Rattle.view_galley.specs.Galley.{Stands}
use Rattle.view_galley.specs.Values.{LineValues}
use Rattle.view_proof.specs.Lines.{HasWords}

-- lines that stand in a copy have their words in it
pub have_words : (copy : List Symbol) (case : CaseValues) (lines : List LineValues) → All (Stands copy case) lines → All (HasWords copy) lines
have_words copy case lines stand k d below =
    let s = stand k d below in
    record { words = s.words; next = s.next }
