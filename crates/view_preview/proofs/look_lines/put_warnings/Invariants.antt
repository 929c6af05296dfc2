use Rattle.std.proofs.Common.{◌≡◌, ◌++◌, string_bytes, drop}
use Rattle.view_preview.specs.LookLines.{warnings_text}
use Rattle.view_preview.proofs.look_lines.put_warnings.Given as goal

abbrev pub invariant-loop-look : goal.invariant-loop-look
invariant-loop-look g l = string_bytes l.out ++ warnings_text l.at (drop l.look-index l.looks) ≡ string_bytes l.fn.out ++ warnings_text l.at l.looks
