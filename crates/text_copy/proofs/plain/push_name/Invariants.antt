use Rattle.std.proofs.Common.{◌≡◌, ◌++◌, drop, map}
use Rattle.text_copy.specs.Plain.{in_style}
use Rattle.text_copy.proofs.plain.push_name.Given as goal

abbrev pub invariant-loop-letter : goal.invariant-loop-letter
invariant-loop-letter g l = l.symbols.items ++ map (in_style l.style) (drop l.letter-index l.name) ≡ l.fn.symbols.items ++ map (in_style l.style) l.name
