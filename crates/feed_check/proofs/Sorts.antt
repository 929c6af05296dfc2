-- How many cells of a grid hold a symbol, counted one after the other.
use Rattle.std.proofs.Common.{◌≡◌, ◌∙◌, ℕ, zero, suc, ◌+◌, ◌<◌, [], ◌∷◌, length, take, Some, None, refl, sym, ap, arith}
use Rattle.std.specs.Prelude.{cond, is_some, slice_get}
use Rattle.std.specs.Option.{option_flatten}
use Rattle.desk_case.proofs.Cells.{place_back}
use Rattle.desk_case.proofs.Grids.{Grid}
use Rattle.feed_check.specs.Sorts.{sort_at, sorts}

abbrev one_at : Grid → ℕ → ℕ
one_at grid n = cond (is_some (option_flatten (slice_get grid n))) 1 0

sorts_next : (grid : Grid) (n : ℕ) → n < length grid → sorts (take (suc n) grid) ≡ sorts (take n grid) + one_at grid n
sorts_next [] n lt = absurd (omega (arith, lt))
sorts_next (None ∷ grid) zero lt = refl
sorts_next (Some s ∷ grid) zero lt = refl
sorts_next (None ∷ grid) (suc n) lt = sorts_next grid n (omega (arith, lt))
sorts_next (Some s ∷ grid) (suc n) lt =
    let more = sorts_next grid n (omega (arith, lt)) in
    omega (arith, more)

-- the next cell counts where it holds a symbol
pub sorts_more : (grid : Grid) (n : ℕ) → length grid ≡ 255 → n < 255 → sorts (take (n + 1) grid) ≡ sorts (take n grid) + sort_at grid n
sorts_more grid n long lt =
    let next : n + 1 ≡ suc n = omega arith in
    ap (λ k. sorts (take k grid)) next ∙ sorts_next grid n (omega (arith, long, lt)) ∙ ap (λ o. sorts (take n grid) + one_at grid o) (sym (place_back n lt))
