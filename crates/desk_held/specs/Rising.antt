-- Stamps that rise from one operation to the next.
use Rattle.std.specs.Prelude.{◌&&◌, Bool, true, List, [], ◌∷◌}
use Rattle.desk_ops.specs.declared.op.Stamp.{Stamp}
use Rattle.desk_ops.specs.declared.op.Op.{Op}
use Rattle.desk_ops.specs.Op.{stamp_of}
use Rattle.desk_ops.specs.Stamp.{before}

-- whether each stamp is greater than the one before it, and the first than the one given
abbrev pub rise_from : Stamp → List Op → Bool
rise_from s [] = true
rise_from s (op ∷ ops) = before s (stamp_of op) && rise_from (stamp_of op) ops

-- the last stamp, or the one given where there is none
abbrev pub last_from : Stamp → List Op → Stamp
last_from s [] = s
last_from s (op ∷ ops) = last_from (stamp_of op) ops
