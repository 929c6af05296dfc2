use Rattle.std.proofs.Common.{◌≡◌, ◌≤◌, ◌+◌, ◌-◌, take, length}
use Rattle.std.specs.List.{count_by}
use Rattle.list_pages.specs.Pages.{joined, start_of}
use Rattle.list_pages.proofs.search.nth_from.Given as goal

abbrev pub invariant-loop-at : goal.invariant-loop-at
invariant-loop-at g l = record {
  low : l.p ≤ l.at;
  within : l.at ≤ length l.pages.pages;
  is : l.start ≡ start_of l.pages.pages l.at;
  after : start_of l.pages.pages l.p ≤ l.start;
  less : l.left ≤ l.n;
  count : count_by (g.P.Pick.picked l.pick) (joined (take l.at l.pages.pages)) + l.left ≡ count_by (g.P.Pick.picked l.pick) (joined (take l.p l.pages.pages)) + l.n;
}

abbrev pub decreases-loop-at : goal.decreases-loop-at
decreases-loop-at g l = length l.pages.pages - l.at
