use Rattle.std.proofs.Common.{◌≡◌, ◌≤◌, take}
use Rattle.desk_seq.specs.Entries.{is_shown}
use Rattle.std.specs.List.{count_by}
use Rattle.desk_blocks.proofs.blocks.shown_in.Given as goal

abbrev pub invariant-loop-i : goal.invariant-loop-i
invariant-loop-i l = record {
  few : l.shown ≤ l.i;
  count : l.shown ≡ count_by is_shown (take l.i l.list);
}
