use Rattle.std.proofs.Common.{◌≡◌, ◌^◌, ◌*◌, ◌+◌, ◌≤◌, drop}
use Rattle.desk_justify.specs.Filled.{taken}
use Rattle.desk_job.proofs.setting.taken.Given as goal

abbrev pub invariant-loop-i : goal.invariant-loop-i
invariant-loop-i l = record {
  sum : l.total + taken (drop l.i l.counts) (drop l.i l.widths) ≡ taken l.counts l.widths;
  small : l.total ≤ l.i * 2 ^ 52;
}
