-- What holds of the corrections of a set.
use Rattle.std.specs.Prelude.{◌≡◌, ◌↔◌, ◌≤◌, ℕ, ◌+◌, true, false}
use Rattle.desk_ops.specs.declared.op.Stamp.{Stamp}
use Rattle.desk_ops.specs.declared.op.Op.{Op}
use Rattle.desk_ops.specs.Stamp.{before}
use Rattle.desk_ops.specs.Op.{stamp_of}
use Rattle.desk_ops.specs.OpSet.{OpSet, has_op, in_order}
use Rattle.desk_ops.specs.Held.{is_borne_in}
use Rattle.desk_ops.specs.Lists.{Among, Precedes}
use Rattle.feed_history.specs.declared.corrections.Correction.{Correction}
use Rattle.feed_history.specs.Rows.{at, row_of}
use Rattle.feed_history.specs.Corrections.{corrections, ends}

-- one of the corrections of a set
abbrev pub IsCorrection : OpSet → Correction → Type 0
IsCorrection h c = Among c (corrections (in_order h))

-- one of the operations of a correction
abbrev pub IsIn : OpSet → Op → Correction → Type 0
IsIn h op c = Among op (row_of stamp_of (in_order h) c)

-- an operation bears one of its stamps
pub record Bears (op : Op) (c : Correction) : Type 0 where
  pub site : (stamp_of op).site ≡ c.site
  pub first : c.first ≤ (stamp_of op).counter
  pub last : (stamp_of op).counter ≤ c.last

-- its counters follow one another, and its site made none of the counter before the first and of the one behind the
-- last
pub record IsLongestRow (h : OpSet) (c : Correction) : Type 0 where
  pub follow : (n : ℕ) → c.first ≤ n → n ≤ c.last → is_borne_in h (at c.site n) ≡ true
  pub begins : (n : ℕ) → n + 1 ≡ c.first → is_borne_in h (at c.site n) ≡ false
  pub ends : is_borne_in h (at c.site (c.last + 1)) ≡ false

-- each operation of a set is in one correction and in no other; a correction has the operations of the set that bear
-- its stamps, and is a longest row, so that no two of one site can be joined; the newest is the last
pub record CorrectionsPartASet (h : OpSet) : Type 0 where
  pub held : (op : Op) → has_op h op ≡ true → (c : Correction) × IsCorrection h c × IsIn h op c
  pub alone : (op : Op) (c d : Correction) → IsCorrection h c → IsCorrection h d → IsIn h op c → IsIn h op d → c ≡ d
  pub whole : (op : Op) (c : Correction) → IsIn h op c ↔ ((has_op h op ≡ true) × Bears op c)
  pub longest : (c : Correction) → IsCorrection h c → IsLongestRow h c
  pub newest_last : (s t : Stamp) → Precedes s t (ends (in_order h)) → before s t ≡ true

abbrev pub CorrectionsPartSets : Type 0
CorrectionsPartSets = (h : OpSet) → CorrectionsPartASet h
