use Rattle.std.proofs.Common.{◌≡◌, length, drop}
use Rattle.std.specs.Str.{chars}
use Rattle.script_answers.specs.declared.copy.Place.TheVariants.{Run}
use Rattle.script_answers.specs.Copy.{copy_from}
use Rattle.script_answers.specs.Memory.{first_symbol, symbol_or}
use Rattle.script_answers.proofs.Loops.{with_prefix, first_of}
use Rattle.script_answers.proofs.copy.copy_of.Given as goal

abbrev pub invariant-loop-c : goal.invariant-loop-c
invariant-loop-c g l = record {
  read : with_prefix l.symbols.items (copy_from l.place (drop (length l.yielded) (chars l.text))) ≡ copy_from Run (chars l.text);
  first : symbol_or (first_of l.symbols.items) (first_symbol l.place (drop (length l.yielded) (chars l.text))) ≡ first_symbol Run (chars l.text);
}
