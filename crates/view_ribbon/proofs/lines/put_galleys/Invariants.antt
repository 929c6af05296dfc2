use Rattle.std.proofs.Common.{◌≡◌, ◌+◌, ◌++◌, length, string_bytes, drop}
use Rattle.view_ribbon.specs.Lines.{galleys_from}
use Rattle.view_ribbon.proofs.lines.put_galleys.Given as goal

abbrev pub invariant-loop-done : goal.invariant-loop-done
invariant-loop-done g l =
    (string_bytes l.out ++ galleys_from l.showing.pica l.showing.longest l.showing.shown l.before l.done (drop l.done l.ended) l.rest
    ≡ string_bytes l.fn.out ++ galleys_from l.showing.pica l.showing.longest l.showing.shown 0 0 l.ended l.lines)
    × (l.before + length l.rest ≡ length l.lines)
