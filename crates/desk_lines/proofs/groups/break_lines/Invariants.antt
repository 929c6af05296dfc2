use Rattle.desk_lines.proofs.Breaks.{IsOpen, HasFound}
use Rattle.desk_lines.proofs.groups.break_lines.Given as goal

abbrev pub invariant-loop-i : goal.invariant-loop-i
invariant-loop-i g l = record {
  is_open : IsOpen l.space l.measure l.words l.from l.i l.width;
  found : HasFound l.space l.measure l.words l.groups.items l.from;
}
