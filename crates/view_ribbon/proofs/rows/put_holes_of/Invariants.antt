use Rattle.std.proofs.Common.{◌≡◌, ◌++◌, string_bytes, drop}
use Rattle.view_ribbon.specs.Rows.{holes_text}
use Rattle.view_ribbon.proofs.rows.put_holes_of.Given as goal

abbrev pub invariant-loop-signal : goal.invariant-loop-signal
invariant-loop-signal g l = string_bytes l.out ++ holes_text l.y (drop l.signal-index l.signal-items) ≡ string_bytes l.fn.out ++ holes_text l.y l.signal-items
