use Rattle.std.proofs.Common.{◌≡◌, ◌≤◌, ◌^◌, drop}
use Rattle.view_picture.specs.Widths.{widest, widest_from}
use Rattle.view_picture.proofs.widths.widest.Given as goal

abbrev pub invariant-loop-line : goal.invariant-loop-line
invariant-loop-line g l = (widest_from l.terms l.most (drop l.line-index l.lines) ≡ widest l.terms l.lines) × (l.most ≤ 2 ^ 90)
