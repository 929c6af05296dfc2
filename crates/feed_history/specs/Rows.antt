-- Lists by stamp, and what in them bears the stamps of a row.
use Rattle.std.specs.Prelude.{◌≡◌, ◌≤◌, ◌<◌, ℕ, ◌+◌, ◌-◌, true, false, List, [], ◌∷◌, ◌++◌, Option, Some, None}
use Rattle.std.specs.Prelude.{length, zero, suc, slice_index_or}
use Rattle.std.specs.List.{AllWithin, filter}
use Rattle.desk_ops.specs.declared.op.Stamp.{Stamp}
use Rattle.desk_ops.specs.declared.fault.CopyFault.{CopyFault}
use Rattle.desk_ops.specs.Stamp.{before, same}
use Rattle.feed_history.specs.declared.corrections.Correction.{Correction}

-- a site's stamp of a counter
abbrev pub at : ℕ → ℕ → Stamp
at site counter = record { counter = counter; site = site }

-- those that bear a stamp
abbrev pub bearing_by : {X : Type 0} → (X → Stamp) → List X → Stamp → List X
bearing_by borne xs s = filter (λ x. same (borne x) s) xs

abbrev pub first : {X : Type 0} → List X → Option X
first [] = None
first (x ∷ xs) = Some x

-- those that bear a site's stamps of so many counters, from one on
abbrev pub row_from : {X : Type 0} → (X → Stamp) → List X → ℕ → ℕ → ℕ → List X
row_from borne xs site counter zero = []
row_from borne xs site counter (suc n) = bearing_by borne xs (at site counter) ++ row_from borne xs site (counter + 1) n

-- those that bear the stamps of a correction
abbrev pub row_of : {X : Type 0} → (X → Stamp) → List X → Correction → List X
row_of borne xs correction =
    row_from borne xs correction.site correction.first (correction.last + 1 - correction.first)
