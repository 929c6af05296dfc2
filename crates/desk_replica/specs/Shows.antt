-- What a replica keeps beside its set, and what of it is shown.
use Rattle.std.specs.Prelude.{ℕ, ◌≤◌, ◌-◌, min, List}
use Rattle.desk_ops.specs.OpSet.{OpSet, size, max_ops}
use Rattle.desk_registers.specs.declared.Registers.{Registers}
use Rattle.desk_registers.specs.Registers.{kept}
use Rattle.desk_seq.specs.declared.Entry.{Entry}
use Rattle.desk_walk.specs.Following.{IsSettled}
use Rattle.desk_replica.specs.State.{IsKept}
use Rattle.desk_replica.specs.JobSettings.{AreKept}

-- a site of a number and lawful operations, no more than may be held; of each key its setting; the walk with its
-- marks, and what waits; and all that
-- waits has a place in the sequence
pub record IsSound (site : ℕ) (ops : OpSet) (registers : Registers) (es : List Entry) (waiting : OpSet) (left : ℕ) :
    Type 0 where
  pub held : IsKept site ops
  pub within : size ops ≤ max_ops
  pub settings : AreKept ops (kept registers)
  pub settled : IsSettled ops es waiting
  pub few : size waiting ≤ size ops
  pub fits : size waiting ≤ left

-- how many more operations all parts take with no new memory
abbrev pub spare_of : ℕ → ℕ → ℕ → OpSet → ℕ
spare_of held room free waiting = min held (min room (free - size waiting))
