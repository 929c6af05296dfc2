use Rattle.std.proofs.Common.{take}
use Rattle.std.specs.List.{AllByRecursion}
use Rattle.desk_codec.specs.Spelling.{IsValue}
use Rattle.desk_codec.specs.RunSteps.{IsWrittenTo}
use Rattle.desk_codec.proofs.runs.write_runs.Given as goal

-- what is written, and what is left
abbrev pub invariant-loop-at : goal.invariant-loop-at
invariant-loop-at g l =
    record {
      written : IsWrittenTo l.ops l.written.items l.out.items l.at;
      values : AllByRecursion IsValue (take l.at l.ops);
    }
