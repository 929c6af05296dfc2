-- What holds of the places of a symbol.
use Rattle.std.specs.Prelude.{◌≡◌, ◌↔◌, ℕ, List, length}
use Rattle.desk_ops.specs.declared.op.Symbol.{Symbol}
use Rattle.desk_ops.specs.Lists.{Among, RiseFrom}
use Rattle.view_punch.specs.Sorts.{StandsAt, wanted_of}
use Rattle.view_punch.specs.Places.{places_of}

-- The places of a symbol of a copy rise, they are those at which it stands, and they are as many as it is wanted.
pub record ArePlacesOf (copy : List Symbol) (symbol : Symbol) (places : List ℕ) : Type 0 where
  pub rise : RiseFrom 0 places
  pub among : (place : ℕ) → Among place places ↔ StandsAt copy symbol place
  pub wanted : length places ≡ wanted_of copy symbol

-- so do all
abbrev pub AreAllPlaces : Type 0
AreAllPlaces = (copy : List Symbol) (symbol : Symbol) → ArePlacesOf copy symbol (places_of copy symbol)
