-- Tables with a row for each number of 16 bits.
use Rattle.std.specs.Prelude.{◌≡◌, ℕ, ◌<◌, List, length, map, filter, get_or, slice_index}
use Rattle.desk_ops.specs.declared.op.Op.{Op}
use Rattle.desk_ops.specs.OpSet.{OpSet, in_order}
use Rattle.desk_seq.specs.declared.Entry.{Entry}
use Rattle.desk_seq.specs.Entries.{is_shown}
use Rattle.feed_history.specs.declared.rooms_made.Made.{Made}
use Rattle.feed_history.specs.Rooms.{is_by, made_of, sites_at_fault, sites_shown, times}

-- each row is what its site made of some operations
pub record AreMade (ops : List Op) (rooms : List Made) : Type 0 where
  pub length : length rooms ≡ 65536
  pub each : (site : ℕ) (d : Made) → site < 65536 → get_or rooms site d ≡ made_of (filter (is_by site) ops)

-- each row is how often its site is among some
pub record AreTimes (sites rows : List ℕ) : Type 0 where
  pub length : length rows ≡ 65536
  pub each : (site : ℕ) → site < 65536 → slice_index rows site ≡ times site sites

-- the rows of what each site made of a set, of what the copy shows of it, and of its faults
pub record AreRooms (set : OpSet) (rooms : List Made) (shows fails : List ℕ) : Type 0 where
  pub made : AreMade (in_order set) rooms
  pub shown : AreTimes (sites_shown set) shows
  pub faults : AreTimes (sites_at_fault set) fails

-- the sites of the entries that are shown
abbrev pub sites_in : List Entry → List ℕ
sites_in entries = map (λ (e : Entry). e.stamp.site) (filter is_shown entries)
