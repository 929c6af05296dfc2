-- Worked feeds of runs, computed.
use Rattle.std.proofs.Common.{◌≡◌, ℕ, List, [], ◌∷◌, length, refl}
use Rattle.desk_ops.specs.declared.op.Op.{Op}
use Rattle.desk_ops.specs.declared.op.Style.TheVariants.{Roman}
use Rattle.desk_ops.specs.declared.op.Symbol.{Symbol}
use Rattle.desk_ops.specs.Stamp.{same, head}
use Rattle.desk_ops.specs.Worked.{at, typed}
use Rattle.desk_codec.specs.Items.{One, Run}
use Rattle.desk_codec.specs.Runs.{chain, item_at, items_from, items, runs_feed}

abbrev roman : ℕ → Symbol
roman ch = record { style = Roman; ch = ch }

-- a, b and c typed by one site, and x by another
abbrev two_typed : List Op
two_typed = typed (at 1 1) head 97 ∷ typed (at 2 1) (at 1 1) 98 ∷ typed (at 2 2) (at 1 1) 120 ∷ typed (at 3 1) (at 2 1) 99 ∷ []

pub two_typed_items : items two_typed ≡ Run (at 1 1) head (roman 97 ∷ roman 98 ∷ roman 99 ∷ []) ∷ One (typed (at 2 2) (at 1 1) 120) ∷ []
unfolding chain item_at items_from same
two_typed_items = refl

pub two_typed_size : length (runs_feed two_typed) ≡ 67
unfolding chain item_at items_from same
two_typed_size = refl

-- a forked stamp is in no run, and what follows it stands alone
abbrev forked : List Op
forked = typed (at 1 1) head 97 ∷ typed (at 2 1) (at 1 1) 98 ∷ typed (at 2 1) (at 1 1) 120 ∷ typed (at 3 1) (at 2 1) 99 ∷ []

pub forked_size : length (runs_feed forked) ≡ 108
unfolding chain item_at items_from same
forked_size = refl
