-- What holds of open readings.
use Rattle.std.specs.Prelude.{◌≡◌, ◌⊎◌, ◌≤◌, ℕ, List, map}
use Rattle.desk_ops.specs.declared.op.Symbol.{Symbol}
use Rattle.desk_ops.specs.Lists.{Among}
use Rattle.feed_readings.specs.declared.reading.Point.{Point}
use Rattle.feed_readings.specs.declared.reading.Reading.{Reading}
use Rattle.feed_readings.specs.declared.reading.Shown.{Shown}
use Rattle.feed_readings.specs.Pieces.{part, pieces}
use Rattle.feed_readings.specs.Readings.{open_readings}

-- the symbols of a list between two places
abbrev pub text : List Shown → Point → Point → (Point → ℕ) → List Symbol
text list from to place = map (λ (element : Shown). element.symbol) (part list (place from) (place to))

-- ---- settled

-- what was, two copies of it, and what came of both: the same that both have, or what the one has where the other is as
-- it was
abbrev pub SettleAs : List Symbol → List Symbol → List Symbol → List Symbol → Type 0
SettleAs base one other both = ((one ≡ other) × (both ≡ one))
    ⊎ (((base ≡ one) × (both ≡ other)) ⊎ ((base ≡ other) × (both ≡ one)))

-- what came of a piece is what it settles as
abbrev pub IsSettled : List Shown → List Shown → List Shown → List Shown → Reading → Type 0
IsSettled base one other both piece =
    SettleAs (text base piece.from piece.to (λ p. p.base)) (text one piece.from piece.to (λ p. p.one))
    (text other piece.from piece.to (λ p. p.other)) (text both piece.from piece.to (λ p. p.both))

-- one of the readings has all that came of the piece
abbrev pub IsReadIn : List Reading → Reading → Type 0
IsReadIn readings piece = (reading : Reading) × Among reading readings × (reading.from.both ≤ piece.from.both)
    × (piece.to.both ≤ reading.to.both)

-- outside the open readings each piece came out as it settles
abbrev pub AllElseIsSettled : Type 0
AllElseIsSettled = (base one other both : List Shown) (piece : Reading) → Among piece (pieces base one other both)
    → IsReadIn (open_readings base one other both) piece ⊎ IsSettled base one other both piece

-- ---- alike

abbrev pub swapped_point : Point → Point
swapped_point point = record { base = point.base; one = point.other; other = point.one; both = point.both }

-- a reading with the two copies exchanged
abbrev pub swapped : Reading → Reading
swapped reading = record { from = swapped_point reading.from; to = swapped_point reading.to }

-- exchanged copies have the same readings, exchanged
abbrev pub ExchangedCopiesReadAlike : Type 0
ExchangedCopiesReadAlike = (base one other both : List Shown)
    → open_readings base other one both ≡ map swapped (open_readings base one other both)
