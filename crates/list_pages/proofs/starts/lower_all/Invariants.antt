use Rattle.std.proofs.Common.{◌≡◌, ◌≤◌, ◌<◌, ◌-◌, ℕ, get_or}
use Rattle.list_pages.proofs.starts.lower_all.Given as goal

abbrev pub invariant-loop-start : goal.invariant-loop-start
invariant-loop-start l = record {
  lowered : (m : ℕ) → m < l.start-index → get_or l.starts m 0 ≡ get_or l.fn.starts m 0 - 1;
  rest : (m : ℕ) → l.start-index ≤ m → get_or l.starts m 0 ≡ get_or l.fn.starts m 0;
}
