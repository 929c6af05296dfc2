-- What a page's tally says of its entries.
use Rattle.std.specs.Prelude.{◌≡◌, Bool, false, ℕ, List, length, slice_index_or, true, ◌<◌}
use Rattle.std.specs.List.{count_by, AllByRecursion}
use Rattle.desk_ops.specs.declared.op.Stamp.{Stamp}
use Rattle.desk_ops.specs.Stamp.{before, same}
use Rattle.desk_seq.specs.declared.Entry.{Entry}
use Rattle.desk_seq.specs.Entries.{is_shown}
use Rattle.desk_blocks.specs.declared.tally.Tally.{Tally}

abbrev pub is_smaller : Stamp → Entry → Bool
is_smaller s e = before e.stamp s

-- how many are shown, and a stamp that none is smaller than
pub record IsTally (t : Tally) (es : List Entry) : Type 0 where
  pub shown : t.shown ≡ count_by is_shown es
  pub least : AllByRecursion (λ (e : Entry). before e.stamp t.least ≡ false) es

abbrev pub is_of : Stamp → Entry → Bool
is_of s e = same e.stamp s

-- the entry at j bears the stamp
pub record IsAt (es : List Entry) (s : Stamp) (j : ℕ) : Type 0 where
  pub within : j < length es
  pub is : (d : Entry) → same (slice_index_or es j d).stamp s ≡ true
