use Rattle.std.proofs.Common.{◌≡◌, ◌≤◌, ◌+◌, ◌-◌, take, length}
use Rattle.std.specs.List.{count_by}
use Rattle.list_pages.proofs.search.nth_in.Given as goal

abbrev pub invariant-loop-left : goal.invariant-loop-left
invariant-loop-left g l = record {
  low : l.from ≤ l.at;
  within : l.at ≤ length l.items;
  less : l.left ≤ l.n;
  count : count_by (g.P.Pick.picked l.pick) (take l.at l.items) + l.left ≡ count_by (g.P.Pick.picked l.pick) (take l.from l.items) + l.n;
}

abbrev pub decreases-loop-left : goal.decreases-loop-left
decreases-loop-left g l = length l.items - l.at
