use Rattle.std.proofs.Common.{◌-◌, ◌/◌, length}
use Rattle.list_pages.specs.Pages.{IsSums}
use Rattle.list_pages.proofs.groups.find_sums.Given as goal

abbrev pub invariant-loop-sums : goal.invariant-loop-sums
invariant-loop-sums g l = IsSums g.S.Summary.sums_up l.pages.pages l.sums.items

abbrev pub decreases-loop-sums : goal.decreases-loop-sums
decreases-loop-sums g l = length l.pages.pages / 32 - length l.sums.items
