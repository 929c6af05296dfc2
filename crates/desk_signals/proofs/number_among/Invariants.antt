use Rattle.std.proofs.Common.{◌≡◌, drop}
use Rattle.desk_signals.specs.Rows.{numbers}
use Rattle.desk_signals.proofs.number_among.Given as goal

abbrev pub invariant-loop-signal : goal.invariant-loop-signal
invariant-loop-signal l = numbers l.signals ≡ numbers (drop l.signal-index l.signals)
