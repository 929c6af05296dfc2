use Rattle.std.proofs.Common.{◌≡◌, ◌≤◌, length, take}
use Rattle.std.specs.List.{count_by}
use Rattle.list_pages.specs.Pages.{joined, start_of}
use Rattle.list_pages.proofs.search.page_before.Given as goal

abbrev pub invariant-loop-before : goal.invariant-loop-before
invariant-loop-before g l = record {
  within : l.at ≤ length l.pages.pages;
  is : l.start ≡ start_of l.pages.pages l.at;
  count : l.before ≡ count_by (g.P.Pick.picked l.pick) (joined (take l.at l.pages.pages));
}

abbrev pub decreases-loop-before : goal.decreases-loop-before
decreases-loop-before g l = l.at
