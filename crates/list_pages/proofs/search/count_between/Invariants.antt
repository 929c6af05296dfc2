use Rattle.std.proofs.Common.{◌≡◌, ◌≤◌, ◌+◌, take}
use Rattle.std.specs.List.{count_by}
use Rattle.list_pages.proofs.search.count_between.Given as goal

abbrev pub invariant-loop-j : goal.invariant-loop-j
invariant-loop-j g l = record {
  few : l.count + l.from ≤ l.j;
  count : count_by (g.P.Pick.picked l.pick) (take l.from l.items) + l.count ≡ count_by (g.P.Pick.picked l.pick) (take l.j l.items);
}
