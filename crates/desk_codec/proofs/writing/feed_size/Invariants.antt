use Rattle.std.proofs.Common.{◌≡◌, ◌+◌, ◌*◌, ◌≤◌, length, drop}
use Rattle.std.specs.List.{flat_map}
use Rattle.desk_codec.specs.Spelling.{spelling}
use Rattle.desk_codec.specs.Feed.{feed}
use Rattle.desk_codec.proofs.writing.feed_size.Given as goal

-- what is counted, and what is left
abbrev pub invariant-loop-op : goal.invariant-loop-op
invariant-loop-op l =
    record {
      bound : l.size ≤ 26 * l.op-index + 4;
      counted : l.size + length (flat_map spelling (drop l.op-index l.ops)) ≡ length (feed l.ops);
    }
