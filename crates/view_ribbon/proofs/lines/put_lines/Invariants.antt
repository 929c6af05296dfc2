use Rattle.std.proofs.Common.{◌≡◌, ◌+◌, ◌++◌, string_bytes, drop}
use Rattle.view_ribbon.specs.Lines.{lines_from}
use Rattle.view_ribbon.proofs.lines.put_lines.Given as goal

abbrev pub invariant-loop-line : goal.invariant-loop-line
invariant-loop-line g l =
    (string_bytes l.out ++ lines_from l.showing.pica l.showing.longest l.showing.shown l.before (drop l.line-index l.lines)
    ≡ string_bytes l.fn.out ++ lines_from l.showing.pica l.showing.longest l.showing.shown l.first l.lines)
    × (l.before ≡ l.first + l.line-index)
