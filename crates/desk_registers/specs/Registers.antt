-- What registers keep: of each key one setting, the one with the greatest stamp.
use Rattle.std.specs.Prelude.{◌≡◌, ◌⊎◌, ℕ, true, ◌==◌, if◌then◌else◌, Option, Some, None}
use Rattle.desk_ops.specs.declared.op.Stamp.{Stamp}
use Rattle.desk_ops.specs.declared.op.Key.{Key}
use Rattle.desk_ops.specs.declared.op.Key.TheVariants.{Measure, Tight, Loose, Case, Wedge}
use Rattle.desk_ops.specs.Order.{key_code}
use Rattle.desk_ops.specs.Stamp.{before}
use Rattle.desk_registers.specs.declared.Kept.{Kept}
use Rattle.desk_registers.specs.declared.Registers.{Registers}

-- the stamp and the value that are kept of a key
abbrev pub kept : Registers → Key → Option Kept
kept r Measure = r.measure
kept r Tight = r.tight
kept r Loose = r.loose
kept r Case = r.case
kept r Wedge = r.wedge

-- the one of the greater stamp
abbrev pub greater : Option Kept → Kept → Kept
greater None new = new
greater (Some old) new = if before old.stamp new.stamp then new else old

-- what is kept once a setting is taken: of its key the one of the greater stamp, of another key what was kept
abbrev pub kept_with : (Key → Option Kept) → Stamp → Key → ℕ → Key → Option Kept
kept_with before_it stamp key value k =
    if key_code k == key_code key then Some (greater (before_it k) (record { stamp = stamp; value = value })) else
    before_it k

-- no setting is kept
abbrev pub nothing : Key → Option Kept
nothing key = None

-- the kept one of the key does not have the stamp
abbrev pub IsOther : Option Kept → Stamp → Type 0
IsOther None stamp = Unit {0}
IsOther (Some old) stamp = old.stamp ≡ stamp → ⊥

-- of the stamps and values that P holds of: none where there are none, else the one whose stamp none of them exceeds
abbrev pub IsGreatestOf : (Stamp → ℕ → Type 0) → Option Kept → Type 0
IsGreatestOf P None = (stamp : Stamp) (value : ℕ) → P stamp value → ⊥
IsGreatestOf P (Some k) = P k.stamp k.value
    × ((stamp : Stamp) (value : ℕ) → P stamp value → (stamp ≡ k.stamp) ⊎ (before stamp k.stamp ≡ true))
