-- Which operations of a held set act: clear, forked, borne, live. Each list of operations is that of a set in order.
use Rattle.std.specs.Prelude.{Option, Some, None, ◌≡◌, ℕ, max, Bool, true, false, List, [], ◌∷◌, reverse}
use Rattle.std.specs.List.{AllByRecursion, filter, filter_map, list_any}
use Rattle.desk_ops.specs.declared.op.Stamp.{Stamp}
use Rattle.desk_ops.specs.declared.op.Op.{Op}
use Rattle.desk_ops.specs.Stamp.{same, head}
use Rattle.desk_ops.specs.Op.{stamp_of, Insertion, insertion}
use Rattle.desk_ops.specs.OpSet.{OpSet, in_order}

-- whether the operation bears the stamp
abbrev pub bears : Stamp → Op → Bool
bears s op = same (stamp_of op) s

-- the operations that bear the stamp
abbrev pub bearing : List Op → Stamp → List Op
bearing ops s = filter (bears s) ops

abbrev pub is_one : List Op → Bool
is_one [] = false
is_one (o ∷ []) = true
is_one (o ∷ p ∷ os) = false

abbrev pub is_more : List Op → Bool
is_more [] = false
is_more (o ∷ []) = false
is_more (o ∷ p ∷ os) = true

-- the operation, if it is the only one
abbrev pub sole : List Op → Option Op
sole [] = None
sole (o ∷ []) = Some o
sole (o ∷ p ∷ os) = None

-- exactly one operation bears it
unfoldable pub is_clear : List Op → Stamp → Bool
is_clear ops s = is_one (bearing ops s)

-- more than one do
unfoldable pub is_forked : List Op → Stamp → Bool
is_forked ops s = is_more (bearing ops s)

-- some do
unfoldable pub is_borne : List Op → Stamp → Bool
is_borne ops s = list_any (bears s) ops

-- the clear operations
unfoldable pub clear_ops : List Op → List Op
clear_ops ops = filter (λ op. is_clear ops (stamp_of op)) ops

unfoldable pub clear_inserts : List Op → List Insertion
clear_inserts ops = filter_map insertion (clear_ops ops)

-- of inserts, greatest stamp first: from s on from insert to parent, where that ends: at the first stamp that none of
-- them bears
unfoldable pub way_end : List Insertion → Stamp → Stamp
way_end [] s = s
way_end (x ∷ older) s = elim (same x.stamp s) [ true ↦ way_end older x.parent | false ↦ way_end older s ]

-- from s on through clear inserts to their parents
abbrev pub end_of : List Op → Stamp → Stamp
end_of ops s = way_end (reverse (clear_inserts ops)) s

-- the head, and the stamp of each live insert
abbrev pub is_live : List Op → Stamp → Bool
is_live ops s = same (end_of ops s) head

-- clear inserts whose parent is the head or a live insert
unfoldable pub live_inserts : List Op → List Insertion
live_inserts ops = filter (λ x. is_live ops x.parent) (clear_inserts ops)

-- the greatest counter, or 0 where there is none
abbrev pub greatest_counter : List Op → ℕ
greatest_counter [] = 0
greatest_counter (o ∷ os) = max (stamp_of o).counter (greatest_counter os)

-- ---- of a set

-- the operations that bear a stamp, in order
abbrev pub bearers : OpSet → Stamp → List Op
bearers h s = bearing (in_order h) s

abbrev pub is_clear_in : OpSet → Stamp → Bool
is_clear_in h s = is_clear (in_order h) s

abbrev pub is_forked_in : OpSet → Stamp → Bool
is_forked_in h s = is_forked (in_order h) s

abbrev pub is_borne_in : OpSet → Stamp → Bool
is_borne_in h s = is_borne (in_order h) s

-- the operation that is clear at the stamp
abbrev pub clear_op_in : OpSet → Stamp → Option Op
clear_op_in h s = sole (bearers h s)

abbrev pub clear_ops_of : OpSet → List Op
clear_ops_of h = clear_ops (in_order h)

abbrev pub clear_inserts_of : OpSet → List Insertion
clear_inserts_of h = clear_inserts (in_order h)

abbrev pub live_inserts_of : OpSet → List Insertion
live_inserts_of h = live_inserts (in_order h)

abbrev pub greatest_counter_of : OpSet → ℕ
greatest_counter_of h = greatest_counter (in_order h)

-- no stamp is forked
abbrev pub IsUnforked : OpSet → Type 0
IsUnforked h = AllByRecursion (λ op. is_forked (in_order h) (stamp_of op) ≡ false) (in_order h)
