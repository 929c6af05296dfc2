use Rattle.std.proofs.Common.{◌≡◌, ◌++◌, string_bytes, drop}
use Rattle.view_pages.specs.Pages.{lines_below}
use Rattle.view_pages.proofs.pages.put_lines_below.Given as goal

abbrev pub invariant-loop-above : goal.invariant-loop-above
invariant-loop-above g l = string_bytes l.out ++ lines_below l.terms l.copy l.paper l.above (drop l.above l.lines) ≡ string_bytes l.fn.out ++ lines_below l.terms l.copy l.paper 0 l.lines
