use Rattle.std.proofs.Common.{◌≡◌}
use Rattle.list_pages.specs.Pages.{start_of}
use Rattle.list_pages.proofs.starts.start_at.Given as goal

abbrev pub invariant-loop-at : goal.invariant-loop-at
invariant-loop-at g l = l.start ≡ start_of l.pages.pages l.at
