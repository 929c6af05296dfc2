use Rattle.std.proofs.Common.{◌≡◌, ◌++◌, length, drop, string_bytes}
use Rattle.std.specs.Str.{chars}
use Rattle.view_galley.specs.Svg.{escaped}
use Rattle.view_pages.specs.Names.{escaped_text}
use Rattle.view_pages.proofs.names.put_escaped_text.Given as goal

abbrev pub invariant-loop-ch : goal.invariant-loop-ch
invariant-loop-ch g l = string_bytes l.out ++ escaped (drop (length l.yielded) (chars l.text)) ≡ string_bytes l.fn.out ++ escaped_text l.text
