use Rattle.std.proofs.Common.{length, ◌-◌, ◌≡◌, ◌+◌, ◌≤◌}
use Rattle.list_pages.specs.Pages.{start_of}
use Rattle.list_pages.proofs.pages.locate_on.Given as goal

abbrev pub invariant-loop-p : goal.invariant-loop-p
invariant-loop-p g l = record { within : l.p ≤ length l.pages.pages; is : l.i ≡ start_of l.pages.pages l.p + l.left }

abbrev pub decreases-loop-p : goal.decreases-loop-p
decreases-loop-p g l = length l.pages.pages - l.p
