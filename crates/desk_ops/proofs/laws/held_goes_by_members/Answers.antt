use Rattle.desk_ops.proofs.Bearers.{borne_op, op_borne, clear_sole, sole_clear, forked_two, two_forked, sole_op, op_sole, counter_within, counter_reached}
use Rattle.desk_ops.proofs.laws.held_goes_by_members.Goals as goal

pub returns : goal.returns
returns c = record {
  borne = λ h s. (borne_op h s, op_borne h s);
  clear = λ h s. (clear_sole h s, sole_clear h s);
  forked = λ h s. (forked_two h s, two_forked h s);
  clear_op = λ h s o. (sole_op h s o, op_sole h s o);
  within = counter_within;
  reached = counter_reached;
}
