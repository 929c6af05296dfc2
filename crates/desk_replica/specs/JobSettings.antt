-- The settings of a set, and what a replica keeps of each key.
use Rattle.std.specs.Prelude.{ℕ, Option}
use Rattle.desk_ops.specs.declared.op.Stamp.{Stamp}
use Rattle.desk_ops.specs.declared.op.Key.{Key}
use Rattle.desk_ops.specs.declared.op.Key.TheVariants.{Measure, Tight, Loose, Case, Wedge}
use Rattle.desk_ops.specs.declared.op.Op.{Op}
use Rattle.desk_ops.specs.declared.op.Op.TheVariants.{Insert, Delete, Set}
use Rattle.desk_ops.specs.OpSet.{OpSet}
use Rattle.desk_ops.specs.Live.{IsLiveOp}
use Rattle.desk_ops.specs.Settings.{setting_of}
use Rattle.desk_registers.specs.declared.Kept.{Kept}
use Rattle.desk_registers.specs.Registers.{kept, kept_with, IsOther, IsGreatestOf}
use Rattle.desk_replica.specs.declared.settings.Settings.{Settings}

abbrev pub settings_of : OpSet → Settings
settings_of h =
    record {
      measure = setting_of h Measure;
      tight = setting_of h Tight;
      loose = setting_of h Loose;
      case = setting_of h
          Case;
      wedge = setting_of h Wedge;
    }

-- what is kept once the setting of an operation is taken, if it is a set
abbrev pub kept_op : (Key → Option Kept) → Op → Key → Option Kept
kept_op kept (Insert stamp parent symbol) = kept
kept_op kept (Delete stamp target) = kept
kept_op kept (Set stamp key value) = kept_with kept stamp key value

-- if it is a set, the kept one of its key does not have its stamp
abbrev pub IsOtherSet : (Key → Option Kept) → Op → Type 0
IsOtherSet kept (Insert stamp parent symbol) = Unit {0}
IsOtherSet kept (Delete stamp target) = Unit {0}
IsOtherSet kept (Set stamp key value) = IsOther (kept key) stamp

-- a live set of the set gives the key the value
abbrev pub Sets : OpSet → Key → Stamp → ℕ → Type 0
Sets h key stamp value = IsLiveOp h (Set stamp key value)

-- of each key the live set with the greatest stamp is kept
abbrev pub AreKept : OpSet → (Key → Option Kept) → Type 0
AreKept h kept = (key : Key) → IsGreatestOf (Sets h key) (kept key)
