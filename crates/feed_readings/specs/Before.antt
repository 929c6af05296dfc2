-- What is kept of a set before a list of operations is joined to it.
use Rattle.std.specs.Prelude.{◌≡◌, All, List}
use Rattle.desk_ops.specs.declared.op.Op.{Op}
use Rattle.desk_ops.specs.Op.{IsLawful}
use Rattle.desk_ops.specs.OpSet.{OpSet, in_order, no_ops, with_all}
use Rattle.feed_readings.specs.declared.after.Before.{Before}
use Rattle.feed_readings.specs.declared.after.Before.TheVariants as kept
use Rattle.feed_readings.specs.declared.reading.Shown.{Shown}
use Rattle.feed_readings.specs.Merged.{HoldsOther, shown_list}
use Rattle.feed_readings.specs.Parts.{AreParts}

-- its operations in order, which are lawful, and the elements that it shows
pub record IsWhole (set : OpSet) (ops : List Op) (elements : List Shown) : Type 0 where
  pub ordered : ops ≡ in_order set
  pub lawful : All IsLawful ops
  pub shown : elements ≡ shown_list set

-- nothing, where one of the two has all that the other does; or what tells them apart; or all of it
abbrev pub IsBefore : {A : Type 0} → OpSet → List Op → Before A → Type 0
IsBefore set ops kept.Held = HoldsOther set (with_all no_ops ops)
IsBefore set ops (kept.Apart parts) = AreParts set (with_all no_ops ops) parts
IsBefore set ops (kept.Whole whole) = IsWhole set whole.ops.items whole.shown.items

-- a list of operations was joined to the set of which this was kept
abbrev pub IsJoin : {A : Type 0} → OpSet → List Op → Before A → OpSet → Type 0
IsJoin set ops before both = IsBefore set ops before × (both ≡ with_all set ops)
