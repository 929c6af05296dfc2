use Rattle.std.proofs.Common.{◌≡◌, ◌≤◌, ◌+◌, take}
use Rattle.std.specs.List.{count_by}
use Rattle.list_pages.proofs.search.nth_by_one.Given as goal

abbrev pub invariant-loop-j : goal.invariant-loop-j
invariant-loop-j g l = record {
  less : l.left ≤ l.n;
  count : count_by (g.P.Pick.picked l.pick) (take l.j l.items) + l.left ≡ count_by (g.P.Pick.picked l.pick) (take l.from l.items) + l.n;
}
