-- How a grouping goes on: what is marked as written, and where the next insert of a run stands.
use Rattle.std.specs.Prelude.{◌≡◌, ℕ, ◌<◌, ◌||◌, ◌++◌, Bool, false, List, length, drop, slice_index_or, Some}
use Rattle.std.specs.List.{flat_map}
use Rattle.desk_ops.specs.declared.op.Stamp.{Stamp}
use Rattle.desk_ops.specs.declared.op.Symbol.{Symbol}
use Rattle.desk_ops.specs.declared.op.Op.{Op}
use Rattle.desk_ops.specs.declared.op.Op.TheVariants.{Insert}
use Rattle.desk_codec.specs.Items.{next_stamp, item_spelling}
use Rattle.desk_codec.specs.Runs.{next_insert, is_among, items_from, runs_feed}

-- the operation stands at the place
pub record IsAt (ops : List Op) (place : ℕ) (op : Op) : Type 0 where
  pub within : place < length ops
  pub is : (d : Op) → slice_index_or ops place d ≡ op

-- the insert with this symbol is the next of the stamp, and stands at the place
pub record IsNextAt (ops : List Op) (stamp : Stamp) (place : ℕ) (symbol : Symbol) : Type 0 where
  pub there : IsAt ops place (Insert (next_stamp stamp) stamp symbol)
  pub next : next_insert ops stamp ≡ Some (record { stamp = next_stamp stamp; parent = stamp; symbol = symbol })

-- the items before a place are written, and what they hold is marked
pub record IsWrittenTo (ops : List Op) (marks : List Bool) (bytes : List ℕ) (place : ℕ) : Type 0 where
  pub written : List Op
  pub size : length marks ≡ length ops
  pub marked : (k : ℕ) (d : Op) → k < length ops
      → slice_index_or marks k false ≡ is_among (slice_index_or ops k d) written
  pub rest : bytes ++ flat_map item_spelling (items_from ops written (drop place ops)) ≡ runs_feed ops

-- these operations are marked as well
pub record MarksAlso (ops : List Op) (before after : List Bool) (more : List Op) : Type 0 where
  pub size : length after ≡ length before
  pub each : (k : ℕ) (d : Op) → k < length ops
      → slice_index_or after k false ≡ (slice_index_or before k false || is_among (slice_index_or ops k d) more)
