-- Feeds of runs: operations by stamp and then by bytes, grouped so that what was typed in one go stands together.
use Rattle.std.specs.Prelude.{ℕ, zero, suc, Bool, true, false, if◌then◌else◌, Option, Some, None, List, [], ◌∷◌, ◌++◌}
use Rattle.std.specs.List.{flat_map, list_any}
use Rattle.std.specs.Ordering.{eq_by_cmp}
use Rattle.desk_ops.specs.declared.op.Stamp.{Stamp}
use Rattle.desk_ops.specs.declared.op.Symbol.{Symbol}
use Rattle.desk_ops.specs.declared.op.Op.{Op}
use Rattle.desk_ops.specs.declared.op.Op.TheVariants.{Insert, Delete, Set}
use Rattle.desk_ops.specs.Stamp.{same}
use Rattle.desk_ops.specs.Op.{stamp_of, Insertion, insertion}
use Rattle.desk_ops.specs.Order.{op_cmp}
use Rattle.desk_ops.specs.OpSet.{OpSet, in_order}
use Rattle.desk_ops.specs.Held.{bearing, sole}
use Rattle.desk_codec.specs.Items.{Item, One, Run, next_stamp, item_ops, item_spelling}
use Rattle.desk_codec.specs.Feed.{runs_magic, ops_in}

-- the insert that an operation is
abbrev pub insert_in : Option Op → Option Insertion
insert_in None = None
insert_in (Some op) = insertion op

-- the clear insert of a stamp: no other operation bears it
abbrev pub clear_insert : List Op → Stamp → Option Insertion
clear_insert ops stamp = insert_in (sole (bearing ops stamp))

-- an insert whose parent is this stamp
abbrev pub child_of : Stamp → Option Insertion → Option Insertion
child_of parent None = None
child_of parent (Some x) = if same x.parent parent then Some x else None

-- the clear insert by the same site with the counter one greater whose parent is this stamp
abbrev pub next_insert : List Op → Stamp → Option Insertion
next_insert ops stamp = child_of stamp (clear_insert ops (next_stamp stamp))

-- the symbols of an insert and of those that follow it, each the next of the one before: at most n
unfoldable pub chain : ℕ → List Op → Option Insertion → List Symbol
chain zero ops first = []
chain (suc n) ops None = []
chain (suc n) ops (Some x) = x.symbol ∷ chain n ops (next_insert ops x.stamp)

-- two or more are a run
abbrev pub run_of : Op → List Symbol → Item
run_of (Insert stamp parent symbol) symbols = Run stamp parent symbols
run_of (Delete stamp target) symbols = One (Delete stamp target)
run_of (Set stamp key value) symbols = One (Set stamp key value)

-- and anything else stands alone
abbrev pub item_of : Op → List Symbol → Item
item_of op [] = One op
item_of op (y ∷ []) = One op
item_of op (y ∷ z ∷ later) = run_of op (y ∷ z ∷ later)

-- the item that begins with an operation: of a clear insert, a run of at most 64
unfoldable pub item_at : List Op → Op → Item
item_at ops op = item_of op (chain 64 ops (clear_insert ops (stamp_of op)))

-- whether the operation is one of these
abbrev pub is_among : Op → List Op → Bool
is_among op ops = list_any (eq_by_cmp op_cmp op) ops

-- the items of the operations that are left, leaving out those already written
unfoldable pub items_from : List Op → List Op → List Op → List Item
items_from ops written [] = []
items_from ops written (op ∷ rest) = elim (is_among op written) [
  | true ↦ items_from ops written rest
  | false ↦ item_at ops op ∷ items_from ops (written ++ item_ops (item_at ops op)) rest
]

abbrev pub items : List Op → List Item
items ops = items_from ops [] ops

-- the feed of runs of operations by stamp and then by bytes
abbrev pub runs_feed : List Op → List ℕ
runs_feed ops = runs_magic ++ flat_map item_spelling (items ops)

-- the feed that a replica writes of the operations that it holds
abbrev pub set_feed : OpSet → List ℕ
set_feed h = runs_feed (in_order h)

-- the operations in the order in which that feed has them
abbrev pub runs_ops : List Op → List Op
runs_ops ops = ops_in (items ops)
