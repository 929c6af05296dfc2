-- What is live, in the words of the rule: what hangs on the head or on a live insert.
use Rattle.std.specs.Prelude.{◌≡◌, ◌⊎◌, true, List, [], ◌∷◌}
use Rattle.std.specs.List.{AllByRecursion}
use Rattle.desk_ops.specs.declared.op.Stamp.{Stamp}
use Rattle.desk_ops.specs.declared.op.Op.{Op}
use Rattle.desk_ops.specs.declared.op.Op.TheVariants.{Insert, Delete, Set}
use Rattle.desk_ops.specs.Stamp.{head, before}
use Rattle.desk_ops.specs.Op.{stamp_of, Insertion}
use Rattle.desk_ops.specs.OpSet.{OpSet, has_op}
use Rattle.desk_ops.specs.Lists.{Among}
use Rattle.desk_ops.specs.Held.{is_clear_in, live_inserts_of}

-- an insert as an operation
abbrev pub insert_of : Insertion → Op
insert_of x = Insert x.stamp x.parent x.symbol

-- the set holds it, and no other operation that bears its stamp
abbrev pub IsClearOp : OpSet → Op → Type 0
IsClearOp h op = (has_op h op ≡ true) × (is_clear_in h (stamp_of op) ≡ true)

-- the stamp of a live insert
abbrev pub IsOfLiveInsert : OpSet → Stamp → Type 0
IsOfLiveInsert h s = (x : Insertion) × Among x (live_inserts_of h) × (x.stamp ≡ s)

-- an insert's parent is the head or a live insert, a delete's target is a live insert, and a set hangs on nothing
abbrev pub HangsOnLive : OpSet → Op → Type 0
HangsOnLive h (Insert stamp parent symbol) = (parent ≡ head) ⊎ IsOfLiveInsert h parent
HangsOnLive h (Delete stamp target) = IsOfLiveInsert h target
HangsOnLive h (Set stamp key value) = Unit {0}

abbrev pub IsLiveOp : OpSet → Op → Type 0
IsLiveOp h op = IsClearOp h op × HangsOnLive h op

-- from one to the next the stamps fall
abbrev pub IsFalling : List Insertion → Type 0
IsFalling [] = Unit {0}
IsFalling (x ∷ xs) = AllByRecursion (λ y. before y.stamp x.stamp ≡ true) xs × IsFalling xs
