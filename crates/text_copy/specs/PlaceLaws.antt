-- What holds of the places of a text.
use Rattle.std.specs.Prelude.{◌↔◌, ℕ, List}
use Rattle.desk_ops.specs.declared.op.Symbol.{Symbol}
use Rattle.desk_ops.specs.Lists.{Among, RiseFrom}
use Rattle.text_copy.specs.Places.{IsPlace, places_of}

-- the places that are found rise, and are those at which the text stands
abbrev pub AreAllPlaces : Type 0
AreAllPlaces =
    (text copy : List Symbol) → RiseFrom 0 (places_of text copy)
    × ((place : ℕ) → Among place (places_of text copy) ↔ IsPlace text copy place)
