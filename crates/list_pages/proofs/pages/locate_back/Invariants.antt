use Rattle.std.proofs.Common.{◌≡◌, ◌+◌, ◌<◌, length}
use Rattle.list_pages.specs.Pages.{start_of}
use Rattle.list_pages.proofs.pages.locate_back.Given as goal

abbrev pub invariant-loop-start : goal.invariant-loop-start
invariant-loop-start g l = record {
  within : l.p < length l.pages.pages;
  is : l.start ≡ start_of l.pages.pages l.p;
  before : l.i < start_of l.pages.pages (l.p + 1);
}

abbrev pub decreases-loop-start : goal.decreases-loop-start
decreases-loop-start g l = l.p
