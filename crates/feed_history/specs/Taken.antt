-- What is told of targets by the elements of a walk.
use Rattle.std.specs.Prelude.{◌≡◌, List, [], ◌∷◌, Some}
use Rattle.desk_ops.specs.declared.op.Stamp.{Stamp}
use Rattle.desk_ops.specs.declared.op.Op.{Op}
use Rattle.desk_ops.specs.Held.{bearing}
use Rattle.feed_history.specs.declared.spots.Spot.{Spot}
use Rattle.feed_history.specs.Rows.{bearing_by, first}
use Rattle.feed_history.specs.Spots.{spot_stamp, symbol_of}
use Rattle.feed_history.specs.Texts.{symbols_of}

-- where an element has a stamp, its symbol is that of the first operation that bears it
abbrev pub AreTold : List Op → List Spot → Type 0
AreTold ops spots = (s : Stamp) (spot : Spot) → first (bearing_by spot_stamp spots s) ≡ Some spot
    → symbols_of (first (bearing ops s)) ≡ symbol_of spot ∷ []
