-- What holds of feeds of runs.
use Rattle.std.specs.Prelude.{◌≡◌, List, T}
use Rattle.std.specs.List.{AllByRecursion}
use Rattle.std.specs.List.Sorted.{IsPermutation}
use Rattle.desk_ops.specs.declared.op.Op.{Op}
use Rattle.desk_ops.specs.OpSet.{OpSet, no_ops, with_all, in_order, is_rising}
use Rattle.desk_codec.specs.Spelling.{IsHeld}
use Rattle.desk_codec.specs.Feed.{IsFeed}
use Rattle.desk_codec.specs.Runs.{runs_feed, runs_ops}

-- The feed of runs of operations that rise is a feed, and the list that it is read as has these operations, each once.
pub record RunsAreRead : Type 0 where
  pub read : (ops : List Op) → AllByRecursion IsHeld ops → IsFeed (runs_feed ops) (runs_ops ops)
  pub same : (ops : List Op) → T (is_rising ops) → IsPermutation ops (runs_ops ops)
  -- the operations that the feed of a set is read as make up that set
  pub set : (h : OpSet) → with_all no_ops (runs_ops (in_order h)) ≡ h
