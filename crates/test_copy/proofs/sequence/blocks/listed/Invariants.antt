use Rattle.std.proofs.Common.{◌≡◌, ◌≤◌, take, length, vec_capacity}
use Rattle.test_copy.proofs.sequence.blocks.listed.Given as goal

abbrev pub invariant-loop-i : goal.invariant-loop-i
invariant-loop-i g l = record {
  same : l.list.items ≡ take l.i (g.Q.Sequence.entries l.sequence);
  room : length (g.Q.Sequence.entries l.sequence) ≤ vec_capacity l.list;
  many : length l.list.items ≡ l.i;
}
