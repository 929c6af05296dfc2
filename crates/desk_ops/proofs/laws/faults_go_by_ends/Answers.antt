use Rattle.desk_ops.proofs.Faulty.{faults_by_stamp}
use Rattle.desk_ops.proofs.Stuck.{fault_listed, listed_fault}
use Rattle.desk_ops.proofs.laws.faults_go_by_ends.Goals as goal

pub returns : goal.returns
returns c = record {
  each = λ h l f. (fault_listed h l f, listed_fault h l f);
  in_order = λ h. faults_by_stamp h;
}
