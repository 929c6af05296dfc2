use Rattle.std.proofs.Common.{◌≡◌, ◌≤◌, ◌+◌, true, take, length, get_or}
use Rattle.std.specs.List.{count_by}
use Rattle.list_pages.proofs.search.nth_back_by_one.Given as goal

abbrev pub invariant-loop-left : goal.invariant-loop-left
invariant-loop-left g l = record {
  within : l.at ≤ length l.items;
  count : count_by (g.P.Pick.picked l.pick) (take l.at l.items) + l.n ≡ count_by (g.P.Pick.picked l.pick) (take l.before l.items) + l.left;
  picked : (d : _) → l.left ≡ 0 → g.P.Pick.picked l.pick (get_or l.items l.at d) ≡ true;
  inside : l.left ≡ 0 → l.at + 1 ≤ length l.items;
}

abbrev pub decreases-loop-left : goal.decreases-loop-left
decreases-loop-left g l = l.at
