use Rattle.std.proofs.Common.{◌≡◌, ◌≤◌, length}
use Rattle.script_answers.specs.Reading.{pairs}
use Rattle.script_answers.proofs.Loops.{with_prefix}
use Rattle.script_answers.proofs.number.bytes_of.Given as goal

abbrev pub invariant-pairs : goal.invariant-pairs
invariant-pairs g l = record {
  read : with_prefix l.out.items (pairs l.left) ≡ pairs l.word;
  within : length l.left ≤ length l.word;
}

abbrev pub decreases-pairs : goal.decreases-pairs
decreases-pairs g l = length l.left
