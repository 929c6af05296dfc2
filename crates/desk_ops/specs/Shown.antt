-- What a set shows: the walk without what is deleted, and its symbols.
use Rattle.std.specs.Prelude.{Bool, false, not, List, map}
use Rattle.std.specs.List.{filter, list_any}
use Rattle.desk_ops.specs.declared.op.Stamp.{Stamp}
use Rattle.desk_ops.specs.declared.op.Symbol.{Symbol}
use Rattle.desk_ops.specs.declared.op.Op.{Op}
use Rattle.desk_ops.specs.declared.op.Op.TheVariants.{Insert, Delete, Set}
use Rattle.desk_ops.specs.Stamp.{same}
use Rattle.desk_ops.specs.Op.{Insertion}
use Rattle.desk_ops.specs.OpSet.{OpSet, in_order}
use Rattle.desk_ops.specs.Held.{clear_ops}
use Rattle.desk_ops.specs.Walk.{walk}

-- whether the operation is a delete of s
abbrev pub deletes : Stamp → Op → Bool
deletes s (Insert stamp parent symbol) = false
deletes s (Delete stamp target) = same target s
deletes s (Set stamp key value) = false

-- some clear delete targets it
unfoldable pub is_deleted : List Op → Stamp → Bool
is_deleted ops s = list_any (deletes s) (clear_ops ops)

unfoldable pub shown : List Op → List Insertion
shown ops = filter (λ x. not (is_deleted ops x.stamp)) (walk ops)

abbrev pub copy : List Op → List Symbol
copy ops = map (λ x. x.symbol) (shown ops)

-- ---- of a set

abbrev pub shown_of : OpSet → List Insertion
shown_of h = shown (in_order h)

abbrev pub copy_of : OpSet → List Symbol
copy_of h = copy (in_order h)

abbrev pub is_deleted_in : OpSet → Stamp → Bool
is_deleted_in h s = is_deleted (in_order h) s
