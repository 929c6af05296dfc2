-- The operations that reading gathers, as long as there is memory for them.
use Rattle.std.specs.Prelude.{◌≡◌, ◌<◌, Bool, true, false, Option, Some, None, List, ◌++◌, length}
use Rattle.desk_ops.specs.declared.op.Op.{Op}

-- the operations, or none where a growth was refused
abbrev pub unless_refused : Bool → List Op → Option (List Op)
unless_refused true ops = None
unless_refused false ops = Some ops

-- More operations come after those before, or a growth was refused: now, of one of them, or before.
abbrev pub Adds : Option (List Op) → Option (List Op) → List Op → Type 0
Adds (Some before) (Some after) more = after ≡ before ++ more
Adds (Some before) None more = 0 < length more
Adds None (Some after) more = ⊥
Adds None None more = Unit {0}
