use Rattle.std.proofs.Common.{◌*◌, take, drop}
use Rattle.list_pages.specs.Pages.{joined}
use Rattle.list_pages.proofs.groups.sum_of.Given as goal

abbrev pub invariant-loop-k : goal.invariant-loop-k
invariant-loop-k g l = g.S.Summary.sums_up l.sum (joined (take l.k (drop (32 * l.g) l.pages.pages)))
