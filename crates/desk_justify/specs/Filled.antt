-- What fills a line that isn't justified by its own spaces.
use Rattle.std.specs.Prelude.{◌≡◌, ℕ, ◌+◌, ◌-◌, ◌*◌, ◌/◌, ◌<◌, ℤ, pos, negsuc, ◌<ℤ◌, unsigned_abs, List, [], ◌∷◌}
use Rattle.std.specs.Prelude.{length, take, get_or}
use Rattle.std.specs.List.{AllByRecursion}

-- what may be filled: nothing where the rest is negative
abbrev pub room : (rest : ℤ) → ℕ
room (pos rest) = rest
room (negsuc _) = 0

-- each fill as often as it fits in what those before it leave
abbrev pub fill_counts : (left : ℕ) → List ℤ → List ℕ
fill_counts left [] = []
fill_counts left (width ∷ widths) =
    let count = left / unsigned_abs width in
    count ∷ fill_counts (left - count * unsigned_abs width) widths

-- how often each fill is used
abbrev pub fills_of : (rest : ℤ) → List ℤ → List ℕ
fills_of rest widths = fill_counts (room rest) widths

-- the atoms that fills take, used so often
abbrev pub taken : (counts : List ℕ) → (widths : List ℤ) → ℕ
taken [] widths = 0
taken (count ∷ counts) [] = 0
taken (count ∷ counts) (width ∷ widths) = count * unsigned_abs width + taken counts widths

-- Each fill is used as often as it fits in what the fills before it leave of the rest, and none is where the rest is
-- negative.
pub record AreFills (rest : ℤ) (widths : List ℤ) (counts : List ℕ) : Type 0 where
  pub number : length counts ≡ length widths
  pub each : (j : ℕ) → j < length widths →
      let left = room rest - taken (take j counts) (take j widths) in
      get_or counts j 0 ≡ left / unsigned_abs (get_or widths j (pos 0))

-- The fills of a rest are what the definition of a filled line says, and no others are.
abbrev pub OneFilling : Type 0
OneFilling = (rest : ℤ) (widths : List ℤ) →
    AreFills rest widths (fills_of rest widths)
    × ((counts : List ℕ) → AreFills rest widths counts → fills_of rest widths ≡ counts)

-- Each width is more than 0.
abbrev pub ArePositive : List ℤ → Type 0
ArePositive widths = AllByRecursion (λ width. pos 0 <ℤ width) widths

-- Each width is less than the one before it.
abbrev pub Descend : List ℤ → Type 0
Descend [] = Unit {0}
Descend (width ∷ []) = Unit {0}
Descend (width ∷ next ∷ widths) = (next <ℤ width) × Descend (next ∷ widths)
