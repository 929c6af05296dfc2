-- Exchanged copies have the same readings.
use Rattle.std.proofs.Common.{◌≡◌, ◌∙◌, ℕ, ◌+◌, Bool, true, false, not, cond, List, [], ◌∷◌, ◌++◌, map, refl, ap, ap₂}
use Rattle.std.specs.Prelude.{Option, Some, None}
use Rattle.feed_readings.specs.declared.reading.Point.{Point}
use Rattle.feed_readings.specs.declared.reading.Reading.{Reading}
use Rattle.feed_readings.specs.declared.reading.Shown.{Shown}
use Rattle.feed_readings.specs.Cuts.{cut_of, cuts, cuts_from, is_white, place_of, point_of, with_cut}
use Rattle.feed_readings.specs.Pieces.{behind, ends, is_open, part, pieces, pieces_from, start}
use Rattle.feed_readings.specs.Readings.{ended, of_row, row_behind, rows}
use Rattle.feed_readings.specs.Laws.{ExchangedCopiesReadAlike, swapped, swapped_point}
use Rattle.feed_readings.proofs.Settling.{settles_alike}

abbrev swapped_cut : Option Point → Option Point
swapped_cut None = None
swapped_cut (Some point) = Some (swapped_point point)

point_swapped : (base one other : Option ℕ) (n : ℕ) → point_of base other one n ≡ swapped_cut (point_of base one other n)
point_swapped None one other n = refl
point_swapped (Some b) None None n = refl
point_swapped (Some b) None (Some t) n = refl
point_swapped (Some b) (Some o) None n = refl
point_swapped (Some b) (Some o) (Some t) n = refl

cut_swapped : (base one other : List Shown) (n : ℕ) (x : Shown) → cut_of base other one n x ≡ swapped_cut (cut_of base one other n x)
cut_swapped base one other n x = by (is_white x.symbol)
  where
    by : (b : Bool) → cond b (point_of (place_of base x.stamp) (place_of other x.stamp) (place_of one x.stamp) n) None ≡ swapped_cut (cond b (point_of (place_of base x.stamp) (place_of one x.stamp) (place_of other x.stamp) n) None)
    by true = point_swapped (place_of base x.stamp) (place_of one x.stamp) (place_of other x.stamp) n
    by false = refl

with_swapped : (o : Option Point) (points : List Point) → with_cut (swapped_cut o) (map swapped_point points) ≡ map swapped_point (with_cut o points)
with_swapped None points = refl
with_swapped (Some point) points = refl

cuts_swapped : (base one other : List Shown) (n : ℕ) (list : List Shown) → cuts_from base other one n list ≡ map swapped_point (cuts_from base one other n list)
cuts_swapped base one other n [] = refl
cuts_swapped base one other n (x ∷ xs) =
    ap₂ with_cut (cut_swapped base one other n x) (cuts_swapped base one other (n + 1) xs) ∙ with_swapped (cut_of base one other n x) (cuts_from base one other (n + 1) xs)

pieces_swapped : (from : Point) (points : List Point) (end : Point) → pieces_from (swapped_point from) (map swapped_point points) (swapped_point end) ≡ map swapped (pieces_from from points end)
pieces_swapped from [] end = refl
pieces_swapped from (cut ∷ points) end = ap (λ (l : List Reading). swapped (record { from = from; to = cut }) ∷ l) (pieces_swapped (behind cut) points end)

abbrev swapped_row : Option Reading → Option Reading
swapped_row None = None
swapped_row (Some row) = Some (swapped row)

of_swapped : (row : Option Reading) → of_row (swapped_row row) ≡ map swapped (of_row row)
of_swapped None = refl
of_swapped (Some row) = refl

ended_swapped : (row : Option Reading) (opens : Bool) → ended (swapped_row row) opens ≡ map swapped (ended row opens)
ended_swapped row true = refl
ended_swapped row false = of_swapped row

behind_swapped : (row : Option Reading) (p : Reading) (opens : Bool) → row_behind (swapped_row row) (swapped p) opens ≡ swapped_row (row_behind row p opens)
behind_swapped None p true = refl
behind_swapped None p false = refl
behind_swapped (Some row) p true = refl
behind_swapped (Some row) p false = refl

map_joined : (xs ys : List Reading) → map swapped xs ++ map swapped ys ≡ map swapped (xs ++ ys)
map_joined [] ys = refl
map_joined (x ∷ xs) ys = ap (λ (l : List Reading). swapped x ∷ l) (map_joined xs ys)

rows_swapped : (test other_test : Reading → Bool) → ((p : Reading) → other_test (swapped p) ≡ test p) → (row : Option Reading) (ps : List Reading) → rows other_test (swapped_row row) (map swapped ps) ≡ map swapped (rows test row ps)
rows_swapped test other_test same row [] = of_swapped row
rows_swapped test other_test same row (p ∷ ps) =
    ap (λ (b : Bool). ended (swapped_row row) b ++ rows other_test (row_behind (swapped_row row) (swapped p) b) (map swapped ps)) (same p)
    ∙ ap (λ (r : Option Reading). ended (swapped_row row) (test p) ++ rows other_test r (map swapped ps)) (behind_swapped row p (test p))
    ∙ ap₂ (λ (xs ys : List Reading). xs ++ ys) (ended_swapped row (test p)) (rows_swapped test other_test same (row_behind row p (test p)) ps)
    ∙ map_joined (ended row (test p)) (rows test (row_behind row p (test p)) ps)

open_swapped : (base one other both : List Shown) (p : Reading) → is_open base other one both (swapped p) ≡ is_open base one other both p
open_swapped base one other both p =
    ap not (settles_alike (part base p.from.base p.to.base) (part one p.from.one p.to.one) (part other p.from.other p.to.other) (part both p.from.both p.to.both))

pub alike : ExchangedCopiesReadAlike
alike base one other both =
    ap (rows (is_open base other one both) None) (ap (λ (l : List Point). pieces_from start l (ends base other one both)) (cuts_swapped base one other 0 both) ∙ pieces_swapped start (cuts base one other both) (ends base one other both))
    ∙ rows_swapped (is_open base one other both) (is_open base other one both) (open_swapped base one other both) None (pieces base one other both)
