use Rattle.std.proofs.Common.{◌≡◌, ◌++◌, drop}
use Rattle.feed_edit.specs.Reporting.{apart}
use Rattle.feed_edit.proofs.reporting.apart.Given as goal

abbrev pub invariant-loop-place : goal.invariant-loop-place
invariant-loop-place g l = l.taken.items ++ apart l.count l.from (drop l.place-index l.places) ≡ apart l.count 0 l.places
