use Rattle.desk_wedge.proofs.Descents.{none_rises}
use Rattle.desk_wedge.proofs.Wedge.from_table.Goals as goal

pub invariant_of-result : goal.invariant_of-result
invariant_of-result c = record {
  number = c.in_ok-number.ensures.range;
  set_q = c.in_ok-set_q.ensures.range;
  units = c.in_ok-units.ensures.each;
  rising = none_rises c.in_ok-units.units c.in-None.ensures;
}
