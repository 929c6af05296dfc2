-- The items of an array, each read.
use Rattle.std.specs.Prelude.{ℕ, nat_le, ◌&&◌, if◌then◌else◌, List, [], ◌∷◌, length, Option, Some, None}
use Rattle.std.specs.Prelude.{option_and_then}
use Rattle.toml.specs.Data.{Data, Items, no_items, item, as_array}

-- an item before those after it, where all of them are there
abbrev pub joined : {A : Type 0} → Option A → Option (List A) → Option (List A)
joined (Some a) (Some more) = Some (a ∷ more)
joined (Some a) None = None
joined None more = None

-- what all the items are, read one by one
abbrev pub each_of : {A : Type 0} → (Data → Option A) → Items → Option (List A)
each_of read no_items = Some []
each_of read (item d ds) = joined (read d) (each_of read ds)

-- a list of so many
abbrev pub so_many : {A : Type 0} → ℕ → ℕ → List A → Option (List A)
so_many low high xs = if nat_le low (length xs) && nat_le (length xs) high then Some xs else None

-- an array of so many values, each read
abbrev pub array_of : {A : Type 0} → ℕ → ℕ → (Data → Option A) → Data → Option (List A)
array_of low high read d = option_and_then (so_many low high) (option_and_then (each_of read) (as_array d))
