use Rattle.std.proofs.Common.{◌≡◌, ◌+◌, ◌-◌, ◌≤◌, ◌<◌, ◌++◌, ◌∷◌, [], length, get_or}
use Rattle.desk_ops.specs.declared.op.Stamp.{Stamp}
use Rattle.desk_ops.specs.declared.op.Symbol.{Symbol}
use Rattle.desk_ops.specs.declared.op.Op.{Op}
use Rattle.desk_ops.specs.declared.op.Op.TheVariants.{Insert}
use Rattle.desk_ops.specs.Op.{stamp_of}
use Rattle.desk_codec.specs.Items.{run_ops}
use Rattle.desk_codec.specs.Runs.{next_insert, chain}
use Rattle.desk_codec.specs.RunSteps.{IsAt, MarksAlso}
use Rattle.desk_codec.proofs.runs.follow.Given as goal

-- what is in the run so far and is marked, and what follows it
abbrev pub invariant-loop-bearer : goal.invariant-loop-bearer
invariant-loop-bearer g l =
    record {
      within : l.last < length l.ops;
      borne : (d : Op) → stamp_of (get_or l.ops l.last d) ≡ l.bearer;
      some : 1 ≤ length l.symbols.items;
      few : length l.symbols.items ≤ 64;
      counter : l.bearer.counter + 1 ≡ l.fn.stamp.counter + length l.symbols.items;
      site : l.bearer.site ≡ l.fn.stamp.site;
      symbols : l.symbols.items ++ chain (64 - length l.symbols.items) l.ops (next_insert l.ops l.bearer) ≡ l.fn.symbols.items ++ chain 63 l.ops (next_insert l.ops l.fn.stamp);
      marks : (parent : Stamp) (symbol : Symbol) → IsAt l.ops l.fn.at (Insert l.fn.stamp parent symbol) → l.fn.symbols.items ≡ symbol ∷ [] → MarksAlso l.ops l.fn.written l.written (run_ops l.fn.stamp parent l.symbols.items);
    }

abbrev pub decreases-loop-bearer : goal.decreases-loop-bearer
decreases-loop-bearer g l = 64 - length l.symbols.items
