use Rattle.std.proofs.Common.{◌≡◌, ◌++◌, string_bytes, drop}
use Rattle.view_preview.specs.LookLines.{look_lines}
use Rattle.view_preview.proofs.look_lines.put_look_lines.Given as goal

abbrev pub invariant-loop-look : goal.invariant-loop-look
invariant-loop-look g l = string_bytes l.out ++ look_lines l.copy (drop l.look-index l.looks) ≡ string_bytes l.fn.out ++ look_lines l.copy l.looks
