-- The places of white elements, found by their stamps.
use Rattle.std.specs.Prelude.{◌≡◌, ℕ, List, Option}
use Rattle.std.specs.BTreeMap.{BTreeMap, get}
use Rattle.desk_ops.specs.declared.op.Stamp.{Stamp}
use Rattle.desk_ops.specs.contracts.op.StampOrd.TheImpl as stamp_ord
use Rattle.feed_readings.specs.declared.cuts.Index.{Index}
use Rattle.feed_readings.specs.declared.reading.Shown.{Shown}
use Rattle.feed_readings.specs.Cuts.{place_of}

-- what a map has at a stamp
abbrev pub place_in : BTreeMap Stamp ℕ → Stamp → Option ℕ
place_in places stamp = get (stamp_ord.ghosts).cmp places stamp

-- a map has the place of each white element of the list, and no other
abbrev pub ArePlaces : List Shown → BTreeMap Stamp ℕ → Type 0
ArePlaces list places = (stamp : Stamp) → place_in places stamp ≡ place_of list stamp

-- three maps have those of three lists
abbrev pub AreThree : {A : Type 0} → List Shown → List Shown → List Shown → Index A → Type 0
AreThree base one other index = ArePlaces base index.base × ArePlaces one index.one × ArePlaces other index.other
