use Rattle.desk_script.proofs.SheetCutting.{IsWithin}
use Rattle.desk_script.proofs.sheet.next_line.Given as goal

abbrev pub invariant-loop-at : goal.invariant-loop-at
invariant-loop-at l = IsWithin l.bytes l.at
