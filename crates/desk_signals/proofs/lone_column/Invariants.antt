use Rattle.std.proofs.Common.{◌≡◌, drop}
use Rattle.desk_signals.specs.Rows.{letters}
use Rattle.desk_signals.proofs.lone_column.Given as goal

abbrev pub invariant-loop-signal : goal.invariant-loop-signal
invariant-loop-signal l = letters l.signals ≡ letters (drop l.signal-index l.signals)
