use Rattle.std.proofs.Common.{◌≡◌, ◌≤◌, take, length, vec_capacity}
use Rattle.desk_seq.specs.Entries.{stamps_of}
use Rattle.desk_blocks.specs.Rank.{homes_of}
use Rattle.desk_blocks.proofs.index.homes_of.Given as goal

abbrev pub invariant-loop-i : goal.invariant-loop-i
invariant-loop-i g l = record {
  same : homes_of l.homes.items ≡ stamps_of (take l.i l.list);
  room : length l.list ≤ vec_capacity l.homes;
  many : length l.homes.items ≡ l.i;
}
