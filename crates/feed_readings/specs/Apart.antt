-- Elements that are known by their stamps.
use Rattle.std.specs.Prelude.{◌≡◌, false, List, [], ◌∷◌}
use Rattle.std.specs.List.{AllByRecursion}
use Rattle.desk_ops.specs.declared.op.Stamp.{Stamp}
use Rattle.desk_ops.specs.Stamp.{same}
use Rattle.feed_readings.specs.declared.reading.Shown.{Shown}

-- no element of the list bears the stamp
abbrev pub BearsNot : Stamp → List Shown → Type 0
BearsNot stamp list = AllByRecursion (λ (element : Shown). same element.stamp stamp ≡ false) list

-- no two elements bear one stamp
abbrev pub AreApart : List Shown → Type 0
AreApart [] = Unit {0}
AreApart (element ∷ list) = BearsNot element.stamp list × AreApart list
