use Rattle.std.proofs.Common.{◌≡◌}
use Rattle.list_pages.specs.Pages.{start_of, IsStarts}
use Rattle.list_pages.proofs.starts.find_starts.Given as goal

abbrev pub invariant-loop-p : goal.invariant-loop-p
invariant-loop-p g l = record {
  start : l.start ≡ start_of l.pages.pages l.p;
  starts : IsStarts l.pages.pages l.starts.items;
}
