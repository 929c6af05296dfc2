-- Operations that are passed in turn, and what a set lacks of a list.
use Rattle.std.specs.Prelude.{◌≡◌, ℕ, ◌+◌, ◌-◌, ◌<◌, ◌≤◌, T, true, false, not, All, List, length, take, drop}
use Rattle.std.specs.Prelude.{slice_index_or}
use Rattle.std.specs.List.{filter}
use Rattle.std.specs.Ordering.{is_lt}
use Rattle.desk_ops.specs.declared.op.Op.{Op}
use Rattle.desk_ops.specs.Order.{op_cmp}
use Rattle.desk_ops.specs.OpSet.{OpSet, has_op, with_all, is_rising}

-- some operations that stand side by side from the place start on, and a place among them or right behind
pub record IsPart (ops : List Op) (start : ℕ) (part : List Op) (at : ℕ) : Type 0 where
  pub is : part ≡ take (length part) (drop start ops)
  pub fits : start + length part ≤ length ops
  pub place : at ≤ length part

-- what stands before the place comes before the operation, as far as the last of it shows
abbrev pub IsPassed : List Op → ℕ → Op → Type 0
IsPassed ops place op = (d : Op) → 0 < place → is_lt (op_cmp (slice_index_or ops (place - 1) d) op) ≡ true

-- the operations of a list that are not in the set
abbrev pub missing_of : OpSet → List Op → List Op
missing_of set ops = filter (λ op. not (has_op set op)) ops

-- what a set lacks of a list: in order, each once
pub record IsMissing (set : OpSet) (ops missing : List Op) : Type 0 where
  pub whole : with_all set missing ≡ with_all set ops
  pub none : All (λ op. has_op set op ≡ false) missing
  pub rising : T (is_rising missing)
  pub few : length missing ≤ length ops

-- the operations of a list in order, each once
pub record IsInTurn (ops sorted : List Op) : Type 0 where
  pub whole : (set : OpSet) → with_all set sorted ≡ with_all set ops
  pub rising : T (is_rising sorted)
  pub few : length sorted ≤ length ops
