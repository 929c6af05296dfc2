-- The pieces into which cuts part four lists, and as what a piece settles.
use Rattle.std.specs.Prelude.{ℕ, ◌≤◌, ◌+◌, Bool, true, false, not, ◌&&◌, if◌then◌else◌, List, [], ◌∷◌, length}
use Rattle.std.specs.List.{slice_range}
use Rattle.desk_ops.specs.declared.op.Symbol.{Symbol}
use Rattle.desk_ops.specs.contracts.op.SymbolPartialEq.TheImpl as symbol_eq
use Rattle.feed_readings.specs.declared.reading.Point.{Point}
use Rattle.feed_readings.specs.declared.reading.Reading.{Reading}
use Rattle.feed_readings.specs.declared.reading.Shown.{Shown}
use Rattle.feed_readings.specs.Cuts.{cuts}

-- where four lists begin, and where they end
abbrev pub start : Point
start = record { base = 0; one = 0; other = 0; both = 0 }

abbrev pub ends : List Shown → List Shown → List Shown → List Shown → Point
ends base one other both = record { base = length base; one = length one; other = length other; both = length both }

-- a point is in each of them, or at its end
pub record LiesIn (base one other both : List Shown) (point : Point) : Type 0 where
  pub base_within : point.base ≤ length base
  pub one_within : point.one ≤ length one
  pub other_within : point.other ≤ length other
  pub both_within : point.both ≤ length both

-- what comes behind a cut
abbrev pub behind : Point → Point
behind cut = record { base = cut.base + 1; one = cut.one + 1; other = cut.other + 1; both = cut.both + 1 }

-- one piece before each cut, and one behind the last
abbrev pub pieces_from : Point → List Point → Point → List Reading
pieces_from from [] end = (record { from = from; to = end }) ∷ []
pieces_from from (cut ∷ points) end = (record { from = from; to = cut }) ∷ pieces_from (behind cut) points end

abbrev pub pieces : List Shown → List Shown → List Shown → List Shown → List Reading
pieces base one other both = pieces_from start (cuts base one other both) (ends base one other both)

-- ---- what lists read

abbrev pub same_symbol : Symbol → Symbol → Bool
same_symbol = (symbol_eq.ghosts).eq

-- the symbols are the same
abbrev pub reads_same : List Shown → List Shown → Bool
reads_same [] [] = true
reads_same [] (second ∷ seconds) = false
reads_same (first ∷ firsts) [] = false
reads_same (first ∷ firsts) (second ∷ seconds) = same_symbol first.symbol second.symbol && reads_same firsts seconds

-- What was, two copies of it, and what came of both: where the copies are the same that came of it, where one is as it
-- was the other, and else nothing does.
abbrev pub settles : List Shown → List Shown → List Shown → List Shown → Bool
settles base one other both =
    if reads_same one other then reads_same one both
    else (if reads_same base one then reads_same other both
    else (if reads_same base other then reads_same one both else false))

-- the elements of a list between two places
abbrev pub part : List Shown → ℕ → ℕ → List Shown
part list from to = slice_range list from to

-- what came of a piece is not what it settles as
abbrev pub is_open : List Shown → List Shown → List Shown → List Shown → Reading → Bool
is_open base one other both piece =
    not (settles (part base piece.from.base piece.to.base) (part one piece.from.one piece.to.one)
    (part other piece.from.other piece.to.other) (part both piece.from.both piece.to.both))
