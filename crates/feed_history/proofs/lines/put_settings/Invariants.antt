use Rattle.std.proofs.Common.{◌≡◌, ◌++◌, drop, string_bytes}
use Rattle.feed_history.specs.Lines.{settings_words}
use Rattle.feed_history.proofs.lines.put_settings.Given as goal

abbrev pub invariant-loop-op : goal.invariant-loop-op
invariant-loop-op g l = string_bytes l.out ++ settings_words (drop l.op-index l.ops) ≡ string_bytes l.fn.out ++ settings_words l.ops
