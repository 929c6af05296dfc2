-- The places at which a text is exchanged, and what is reported where there are none.
use Rattle.std.specs.Prelude.{◌≡◌, ℕ, ◌+◌, ◌≤◌, ◌<◌, ◌==◌, List, [], ◌∷◌, Option, length, nat_lt, if◌then◌else◌}
use Rattle.std.specs.List.{list_any}
use Rattle.std.specs.Io.KnownBytes.{Appends}
use Rattle.desk_ops.specs.Lists.{Among, RiseFrom}
use Rattle.desk_ops.specs.declared.op.Symbol.{Symbol}
use Rattle.feed_stored.specs.Sending.{WritesPrefix}
use Rattle.text_copy.specs.Places.{places_of}
use Rattle.text_copy.specs.Reporting.{reported_of}
use Rattle.feed_edit.specs.declared.texts.Where.{Where}
use Rattle.feed_edit.specs.declared.texts.Where.TheVariants as wheres
use Rattle.feed_edit.specs.declared.replace_fault.PlaceFault.{PlaceFault}
use Rattle.feed_edit.specs.declared.replace_fault.PlaceFault.TheVariants as faults

-- ---- places that are taken

-- the place, where there is one alone
abbrev pub only : List ℕ → List ℕ
only places = if length places == 1 then places else []

-- this place, where it is one of them
abbrev pub this : ℕ → List ℕ → List ℕ
this place places = if list_any (λ p. p == place) places then place ∷ [] else []

-- from the left those from here on that do not begin within the last one taken, each of which has so many symbols
abbrev pub apart : ℕ → ℕ → List ℕ → List ℕ
apart count from [] = []
apart count from (place ∷ places) =
    if nat_lt place from then apart count from places else place ∷ apart count (place + count) places

-- of the places of a text of so many symbols those that are taken, none where there are none such
abbrev pub taken_of : Where → ℕ → List ℕ → List ℕ
taken_of wheres.Once count places = only places
taken_of (wheres.At place) count places = this place places
taken_of wheres.All count places = if count == 0 then only places else apart count 0 places

-- those of a text in a copy
abbrev pub taken : Where → List Symbol → List Symbol → List ℕ
taken at old copy = taken_of at (length old) (places_of old copy)

-- places of so many symbols each, from a place on and up to an end, none of which begins within one before it
abbrev pub AreApart : ℕ → ℕ → ℕ → List ℕ → Type 0
AreApart count from end [] = from ≤ end
AreApart count from end (place ∷ places) = (from ≤ place) × AreApart count (place + count) end places

-- Of places that rise those that are taken at all of them are such, and each begins within one that is taken, or at it.
abbrev pub TakenCoverAll : Type 0
TakenCoverAll =
    (count : ℕ) (places : List ℕ) → 1 ≤ count → RiseFrom 0 places → (place : ℕ)
    → (Among place (apart count 0 places) → Among place places)
    × (Among place places → (at : ℕ) × Among at (apart count 0 places) × (at ≤ place) × (place < at + count))

-- ---- what is reported

-- why no place of a text is taken, and what was written: it has none, or so many of which none is, and these were
-- written; or they were in part under Write; or memory ran out, and nothing was written
abbrev pub IsReported : Where → List Symbol → List Symbol → Option (List ℕ) → Option (List ℕ) → PlaceFault → Type 0
IsReported at old copy before after faults.NoPlace = (places_of old copy ≡ [])
    × Appends before after (reported_of old copy)
IsReported at old copy before after (faults.ManyPlaces count) = (taken at old copy ≡ [])
    × (length (places_of old copy) ≡ count) × (1 ≤ count) × Appends before after (reported_of old copy)
IsReported at old copy before after faults.Write = (taken at old copy ≡ [])
    × WritesPrefix before after (reported_of old copy)
IsReported at old copy before after faults.NoMemory = after ≡ before
