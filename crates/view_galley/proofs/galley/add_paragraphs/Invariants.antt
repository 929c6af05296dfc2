use Rattle.std.proofs.Common.{◌≡◌, drop}
use Rattle.view_galley.specs.Galley.{all_placed, with_lines}
use Rattle.view_galley.proofs.galley.add_paragraphs.Given as goal

abbrev pub invariant-loop-paragraph : goal.invariant-loop-paragraph
invariant-loop-paragraph g l =
    with_lines l.terms l.copy l.lines.items (all_placed l.terms l.copy (drop l.paragraph-index l.found)) ≡ with_lines l.terms l.copy l.fn.lines.items (all_placed l.terms l.copy l.found)
