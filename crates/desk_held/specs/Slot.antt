-- An operation in the form in which it is kept: its stamp, the stamp of its parent or target, and what else it says.
use Rattle.std.specs.Prelude.{◌≡◌, ⊤, refl}
use Rattle.desk_ops.specs.declared.op.Stamp.{Stamp}
use Rattle.desk_ops.specs.declared.op.Op.{Op}
use Rattle.desk_ops.specs.declared.op.Op.TheVariants as op
use Rattle.desk_ops.specs.Op.{stamp_of}
use Rattle.desk_ops.specs.Stamp.{head}
use Rattle.desk_held.specs.declared.slots.Tail.{Tail}
use Rattle.desk_held.specs.declared.slots.Tail.TheVariants.{Insert, Delete, Set}

-- the operation of a stamp, another stamp and the rest
abbrev pub op_with : Stamp → Stamp → Tail → Op
op_with stamp other (Insert style ch) = op.Insert stamp other (record { style = style; ch = ch })
op_with stamp other Delete = op.Delete stamp other
op_with stamp other (Set key value) = op.Set stamp key value

-- an insert's parent or a delete's target; a setting has none, and the head is kept in its place
abbrev pub other_of : Op → Stamp
other_of (op.Insert stamp parent symbol) = parent
other_of (op.Delete stamp target) = target
other_of (op.Set stamp key value) = head

abbrev pub tail_of : Op → Tail
tail_of (op.Insert stamp parent symbol) = Insert symbol.style symbol.ch
tail_of (op.Delete stamp target) = Delete
tail_of (op.Set stamp key value) = Set key value

abbrev pub IsPlain : Stamp → Tail → Type 0
IsPlain other (Insert style ch) = ⊤
IsPlain other Delete = ⊤
IsPlain other (Set key value) = head ≡ other

pub stamp-back : (stamp other : Stamp) (tail : Tail) → stamp_of (op_with stamp other tail) ≡ stamp
stamp-back stamp other (Insert style ch) = refl
stamp-back stamp other Delete = refl
stamp-back stamp other (Set key value) = refl

pub other-back : (stamp other : Stamp) (tail : Tail) → IsPlain other tail → other_of (op_with stamp other tail) ≡ other
other-back stamp other (Insert style ch) p = refl
other-back stamp other Delete p = refl
other-back stamp other (Set key value) p = p

pub tail-back : (stamp other : Stamp) (tail : Tail) → tail_of (op_with stamp other tail) ≡ tail
tail-back stamp other (Insert style ch) = refl
tail-back stamp other Delete = refl
tail-back stamp other (Set key value) = refl
