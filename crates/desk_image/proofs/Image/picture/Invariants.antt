use Rattle.std.proofs.Common.{◌≡◌, ℕ, ◌-◌, ◌<◌, ltb, ◌&&◌}
use Rattle.std.specs.Prelude.{if◌then◌else◌, ◌==◌, slice_index}
use Rattle.std.specs.Int.{bit_at}
use Rattle.desk_image.proofs.Image.picture.Given as goal

abbrev pub invariant-loop-place : goal.invariant-loop-place
invariant-loop-place l =
    (k : ℕ) → k < 31 → slice_index l.picture k ≡ (if ltb k l.place && (bit_at l.self-inside.0 (30 - k) == 1) then 79 else 46)
