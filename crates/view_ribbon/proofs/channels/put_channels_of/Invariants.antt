use Rattle.std.proofs.Common.{◌≡◌, ◌++◌, string_bytes, drop}
use Rattle.view_ribbon.specs.Channels.{channels_text}
use Rattle.view_ribbon.proofs.channels.put_channels_of.Given as goal

abbrev pub invariant-loop-signal : goal.invariant-loop-signal
invariant-loop-signal g l = string_bytes l.out ++ channels_text l.bottom (drop l.signal-index l.signals) ≡ string_bytes l.fn.out ++ channels_text l.bottom l.signals
