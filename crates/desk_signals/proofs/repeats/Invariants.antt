use Rattle.std.proofs.Common.{◌≡◌, drop}
use Rattle.desk_signals.specs.Rows.{repeats}
use Rattle.desk_signals.proofs.repeats.Given as goal

abbrev pub invariant-loop-index : goal.invariant-loop-index
invariant-loop-index l = repeats l.signals ≡ repeats (drop l.index l.signals)
