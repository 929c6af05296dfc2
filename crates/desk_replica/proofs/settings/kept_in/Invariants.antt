use Rattle.desk_ops.specs.OpSet.{in_order}
use Rattle.desk_registers.specs.Registers.{kept}
use Rattle.desk_replica.proofs.Passes.{clear_before}
use Rattle.desk_replica.proofs.KeptSets.{AreKeptOf}
use Rattle.desk_replica.proofs.settings.kept_in.Given as goal

-- of the clear operations so far
abbrev pub invariant-loop-op : goal.invariant-loop-op
invariant-loop-op g l = AreKeptOf (clear_before (in_order l.held.ops) l.op-index) (kept l.registers)
