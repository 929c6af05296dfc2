-- Where elements are in the copy.
use Rattle.std.specs.Prelude.{ℕ, ◌+◌, not, cond, List, [], ◌∷◌, Option, Some, None, if◌then◌else◌}
use Rattle.desk_ops.specs.declared.op.Stamp.{Stamp}
use Rattle.desk_ops.specs.declared.op.Symbol.{Symbol}
use Rattle.desk_ops.specs.declared.op.Op.{Op}
use Rattle.desk_ops.specs.declared.op.Op.TheVariants.{Insert, Delete, Set}
use Rattle.desk_seq.specs.declared.Entry.{Entry}
use Rattle.feed_history.specs.declared.spots.Spot.{Spot}
use Rattle.feed_history.specs.Rows.{bearing_by, first}

abbrev pub spot_stamp : Spot → Stamp
spot_stamp spot = record { counter = spot.counter; site = spot.site }

abbrev pub symbol_of : Spot → Symbol
symbol_of spot = record { style = spot.style; ch = spot.ch }

-- the elements of a walk with their symbols, each with the number of those before it that are shown; so many are shown
-- before them all
abbrev pub spots_from : ℕ → List Entry → List Spot
spots_from place [] = []
spots_from place (e ∷ es) =
    (record {
      counter = e.stamp.counter;
      site = e.stamp.site;
      shown = not e.deleted;
      style = e.symbol.style;
      ch = e.symbol.ch;
      place = place;
    })
    ∷ spots_from (cond e.deleted place (place + 1)) es

abbrev pub any_place : Option Spot → Option ℕ
any_place None = None
any_place (Some spot) = Some spot.place

-- if it is shown
abbrev pub shown_place : Option Spot → Option ℕ
shown_place None = None
shown_place (Some spot) = if spot.shown then Some spot.place else None

-- the place of an insert's element, if it is shown
abbrev pub own_place : List Spot → Op → Option ℕ
own_place spots (Insert stamp parent symbol) = shown_place (first (bearing_by spot_stamp spots stamp))
own_place spots (Delete stamp target) = None
own_place spots (Set stamp key value) = None

-- the place of the element that a delete targets, shown or not
abbrev pub target_place : List Spot → Op → Option ℕ
target_place spots (Insert stamp parent symbol) = None
target_place spots (Delete stamp target) = any_place (first (bearing_by spot_stamp spots target))
target_place spots (Set stamp key value) = None

abbrev pub or_else : Option ℕ → Option ℕ → Option ℕ
or_else (Some place) other = Some place
or_else None other = other

-- the first that there is
abbrev pub first_of : (Op → Option ℕ) → List Op → Option ℕ
first_of place [] = None
first_of place (op ∷ ops) = or_else (place op) (first_of place ops)

-- of operations: of the first element of theirs that is shown, or else of the first that they target
abbrev pub place_of : List Spot → List Op → Option ℕ
place_of spots ops = or_else (first_of (own_place spots) ops) (first_of (target_place spots) ops)
