use Rattle.std.proofs.Common.{◌≡◌, ◌++◌, drop, string_bytes}
use Rattle.feed_history.specs.Asked.{lines_from}
use Rattle.feed_history.proofs.asked.put_asked_lines.Given as goal

abbrev pub invariant-loop-end : goal.invariant-loop-end
invariant-loop-end g l =
    string_bytes l.lines.out ++ lines_from l.history.ops.now l.history.spots.now l.history.faults.now l.asked (drop l.end-index l.ends)
    ≡ string_bytes l.fn.lines.out ++ lines_from l.history.ops.now l.history.spots.now l.history.faults.now l.asked l.ends
