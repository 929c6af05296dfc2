-- Which operations of a feed are moved to another number, where two rooms used one, and what they are under it.
use Rattle.std.specs.Prelude.{◌≡◌, ◌≤◌, ◌↔◌, ℕ, Bool, true, false, not, ◌&&◌, ◌==◌, nat_le, if◌then◌else◌, List, map}
use Rattle.std.specs.Prelude.{Option, None, Some, get_or}
use Rattle.std.specs.Ordering.{eq_by_cmp}
use Rattle.desk_ops.specs.declared.op.Stamp.{Stamp}
use Rattle.desk_ops.specs.declared.op.Op.{Op}
use Rattle.desk_ops.specs.declared.op.Op.TheVariants as kinds
use Rattle.desk_ops.specs.Op.{stamp_of}
use Rattle.desk_ops.specs.OpSet.{OpSet, has_op, in_order, no_ops, with_all}
use Rattle.desk_ops.specs.Order.{op_cmp}
use Rattle.desk_ops.specs.Held.{clear_op_in, is_borne_in}

-- ---- collisions

-- both are there, and they are not one
abbrev pub differ : Option Op → Option Op → Bool
differ None other = false
differ (Some one) None = false
differ (Some one) (Some other) = not (eq_by_cmp op_cmp one other)

-- a stamp collides between two sets: in each one operation alone bears it, and the two differ
abbrev pub collides : OpSet → OpSet → Stamp → Bool
collides feed other stamp = differ (clear_op_in feed stamp) (clear_op_in other stamp)

-- a stamp is of the same site as another, and no later
abbrev pub leads_to : Stamp → Stamp → Bool
leads_to first stamp = first.site == stamp.site && nat_le first.counter stamp.counter

-- a stamp collides, or one before it of its site
abbrev pub IsBehind : OpSet → OpSet → Stamp → Type 0
IsBehind feed other stamp = (first : Stamp) × (collides feed other first ≡ true) × (leads_to first stamp ≡ true)

-- an operation is moved where the feed holds it, the other does not, and its stamp collides, or one before it of its
-- site
pub record IsMoved (feed other : OpSet) (op : Op) : Type 0 where
  pub held : has_op feed op ≡ true
  pub alone : has_op other op ≡ false
  pub behind : IsBehind feed other (stamp_of op)

-- the set of all that are moved
abbrev pub AreMoved : OpSet → OpSet → OpSet → Type 0
AreMoved feed other moved = (op : Op) → (has_op moved op ≡ true) ↔ IsMoved feed other op

-- ---- the other number

-- a stamp under the other number, if an operation that is moved bears it
abbrev pub stamp_under : ℕ → OpSet → Stamp → Stamp
stamp_under site moved stamp = if is_borne_in moved stamp then record { counter = stamp.counter; site = site }
    else stamp

-- an operation, its stamp and what it names under the other number
abbrev pub op_under : ℕ → OpSet → Op → Op
op_under site moved (kinds.Insert stamp parent symbol) =
    kinds.Insert (stamp_under site moved stamp) (stamp_under site moved parent) symbol
op_under site moved (kinds.Delete stamp target) =
    kinds.Delete (stamp_under site moved stamp) (stamp_under site moved target)
op_under site moved (kinds.Set stamp key value) = kinds.Set (stamp_under site moved stamp) key value

-- what an operation of the feed becomes: one that is not moved stays as it is
abbrev pub renumbered : ℕ → OpSet → Op → Op
renumbered site moved op = if has_op moved op then op_under site moved op else op

-- what the feed becomes
abbrev pub set_renumbered : ℕ → OpSet → OpSet → OpSet
set_renumbered site moved feed = with_all no_ops (map (renumbered site moved) (in_order feed))

-- ---- of lists

-- a counter is from the least one on, if there is one
abbrev pub is_reached : Option ℕ → ℕ → Bool
is_reached None counter = false
is_reached (Some least) counter = nat_le least counter

-- a list has the least counter of each site at its place: whether a stamp is from it on
abbrev pub is_from : List (Option ℕ) → Stamp → Bool
is_from firsts stamp = is_reached (get_or firsts stamp.site None) stamp.counter

-- whether an operation collides, and its stamp leads to another
abbrev pub collides_before : OpSet → OpSet → Stamp → Op → Bool
collides_before feed other stamp op = collides feed other (stamp_of op) && leads_to (stamp_of op) stamp

-- whether an operation is from the least counter of its site on, and the other set has it not
abbrev pub is_moved : List (Option ℕ) → OpSet → Op → Bool
is_moved firsts other op = is_from firsts (stamp_of op) && not (has_op other op)
