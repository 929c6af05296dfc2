use Rattle.std.proofs.Common.{◌≡◌, ◌++◌, drop}
use Rattle.std.specs.Prelude.{None, string_bytes}
use Rattle.feed_edit.specs.Counters.{counters_words}
use Rattle.feed_edit.proofs.counters.put_counters.Given as goal

abbrev pub invariant-loop-at : goal.invariant-loop-at
invariant-loop-at g l = string_bytes l.out ++ counters_words l.naming l.before (drop l.at l.stamps) ≡ string_bytes l.fn.out ++ counters_words l.naming None l.stamps
