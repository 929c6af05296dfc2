use Rattle.std.proofs.Common.{◌≡◌, ◌++◌, drop, take}
use Rattle.std.specs.List.{flat_map, AllByRecursion}
use Rattle.desk_codec.specs.Spelling.{spelling, IsValue}
use Rattle.desk_codec.specs.Feed.{feed}
use Rattle.desk_codec.proofs.writing.write_feed.Given as goal

-- what is written, and what is left
abbrev pub invariant-loop-op : goal.invariant-loop-op
invariant-loop-op g l =
    record {
      written : l.out.items ++ flat_map spelling (drop l.op-index l.ops) ≡ feed l.ops;
      values : AllByRecursion IsValue (take l.op-index l.ops);
    }
