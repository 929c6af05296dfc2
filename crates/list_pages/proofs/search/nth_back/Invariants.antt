use Rattle.std.proofs.Common.{◌≡◌, ◌≤◌, ◌+◌, take, length}
use Rattle.std.specs.List.{count_by}
use Rattle.list_pages.proofs.search.nth_back.Given as goal

abbrev pub invariant-loop-at : goal.invariant-loop-at
invariant-loop-at g l = record {
  within : l.at ≤ length l.items;
  some : 1 ≤ l.left;
  enough : l.left ≤ count_by (g.P.Pick.picked l.pick) (take l.at l.items);
  count : count_by (g.P.Pick.picked l.pick) (take l.at l.items) + l.n ≡ count_by (g.P.Pick.picked l.pick) l.items + l.left;
}

abbrev pub decreases-loop-at : goal.decreases-loop-at
decreases-loop-at g l = l.at
