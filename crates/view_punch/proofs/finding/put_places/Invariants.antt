use Rattle.std.proofs.Common.{◌≡◌, ◌+◌, ◌≤◌, ◌++◌, ℕ, drop, length}
use Rattle.std.specs.List.{flat_map}
use Rattle.desk_ops.specs.Lists.{RiseFrom}
use Rattle.view_punch.specs.Finding.{begun, line_of, place_text}
use Rattle.view_punch.proofs.finding.put_places.Given as goal

abbrev pub invariant-loop-place : goal.invariant-loop-place
invariant-loop-place g l = record {
  within : l.passed ≤ length l.begins;
  low : ℕ;
  rise : RiseFrom low (drop l.place-index l.places);
  passed : (place : ℕ) → low ≤ place → begun place l.begins ≡ l.passed + begun place (drop l.passed l.begins);
  written : l.out.items ++ flat_map (λ place. place_text l.count l.copy place (line_of place l.begins)) (drop l.place-index l.places)
      ≡ l.fn.out.items ++ flat_map (λ place. place_text l.count l.copy place (line_of place l.begins)) l.places;
}
