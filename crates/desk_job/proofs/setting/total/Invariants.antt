use Rattle.std.proofs.Common.{◌≡◌, ◌^◌, ◌*◌, ◌≤◌, take}
use Rattle.std.specs.Prelude.{sum_by, unsigned_abs}
use Rattle.desk_job.proofs.setting.total.Given as goal

abbrev pub invariant-loop-width : goal.invariant-loop-width
invariant-loop-width l = record {
  sum : l.total ≡ sum_by unsigned_abs (take l.width-index l.widths);
  small : l.total ≤ l.width-index * 2 ^ 40;
}
