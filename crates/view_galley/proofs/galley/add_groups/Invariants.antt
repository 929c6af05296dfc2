use Rattle.std.proofs.Common.{◌≡◌, drop}
use Rattle.view_galley.specs.Galley.{placed_at, with_lines}
use Rattle.view_galley.proofs.galley.add_groups.Given as goal

abbrev pub invariant-loop-i : goal.invariant-loop-i
invariant-loop-i g l =
    with_lines l.terms l.all.copy.now l.lines.items (placed_at l.all.words.now (drop l.i l.groups)) ≡ with_lines l.terms l.all.copy.now l.fn.lines.items (placed_at l.all.words.now l.groups)
