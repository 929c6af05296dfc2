use Rattle.desk_ops.proofs.Worked as worked
use Rattle.desk_ops.proofs.laws.worked_sets.Goals as goal

pub returns : goal.returns
returns c = record {
  later_sibling_first = worked.later_sibling_first;
  five_arrivals = worked.five_arrivals;
  forked_stamp = worked.forked_stamp;
  waiting_then_live = worked.waiting_then_live;
  tombstones_kept = worked.tombstones_kept;
  concurrent_delete_and_insert = worked.concurrent_delete_and_insert;
  settings_by_stamp = worked.settings_by_stamp;
}
