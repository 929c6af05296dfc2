-- The place of a new stamp in a list of stamps.
use Rattle.std.specs.Prelude.{◌≡◌, ℕ, ◌+◌, ◌<◌, ◌≤◌, true, false, List, length, slice_index_or, ◌⊎◌}
use Rattle.desk_ops.specs.declared.op.Stamp.{Stamp}
use Rattle.desk_ops.specs.Stamp.{same, before, head}

-- where the scan begins: at the front for the head, else right after the parent
abbrev pub IsStart : List Stamp → Stamp → ℕ → Type 0
IsStart ts parent start =
    ((parent ≡ head) × (start ≡ 0))
    ⊎ ((same head parent ≡ false) × (k : ℕ) × (start ≡ k + 1) × (k < length ts) × (slice_index_or ts k head ≡ parent)
    × ((j : ℕ) → j < k → same (slice_index_or ts j head) parent ≡ false))

-- the first place from there on whose stamp is smaller, or the end
pub record IsPlace (ts : List Stamp) (parent s : Stamp) (place : ℕ) : Type 0 where
  pub start : ℕ
  pub starts : IsStart ts parent start
  pub after : start ≤ place
  pub within : place ≤ length ts
  pub skipped : (k : ℕ) → start ≤ k → k < place → before (slice_index_or ts k head) s ≡ false
  pub stops : place < length ts → before (slice_index_or ts place head) s ≡ true
