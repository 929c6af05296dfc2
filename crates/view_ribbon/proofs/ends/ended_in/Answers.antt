use Rattle.std.proofs.Common.{◌≡◌, arith}
use Rattle.std.proofs.lemmas.Grind.{common_steps}
use Rattle.view_ribbon.proofs.ends.ended_in.Goals as goal
use Rattle.view_ribbon.proofs.ends.ended_in.Goals.{in-FineOut+then-is_out+in_ok-push-in-FineOut, in-FineOut+else-is_out, in-Coarse, in-Cell}

pub loop-row-preserved : goal.loop-row-preserved
loop-row-preserved g c = elim c.match-row.branch [
  | in-FineOut+then-is_out+in_ok-push-in-FineOut w ↦ grind (arith, common_steps)
  | in-FineOut+else-is_out w ↦ grind (arith, common_steps)
  | in-Coarse w ↦ grind (arith, common_steps)
  | in-Cell w ↦ grind (arith, common_steps)
]
