-- Corrections: the longest rows of operations of one site whose counters follow one another.
use Rattle.std.specs.Prelude.{◌≡◌, ℕ, ◌+◌, ◌==◌, Bool, not, List, [], ◌∷◌, map, reverse, slice_index_or, zero, suc}
use Rattle.std.specs.Prelude.{if◌then◌else◌}
use Rattle.std.specs.List.{filter}
use Rattle.desk_ops.specs.declared.op.Stamp.{Stamp}
use Rattle.desk_ops.specs.declared.op.Op.{Op}
use Rattle.desk_ops.specs.Op.{stamp_of}
use Rattle.desk_ops.specs.Held.{is_borne}
use Rattle.desk_ops.specs.Faults.{stamps}
use Rattle.feed_history.specs.declared.corrections.Correction.{Correction}
use Rattle.feed_history.specs.Rows.{at}

-- the first counter of the longest row of a site that comes to a counter
abbrev pub first_to : List Op → ℕ → ℕ → ℕ
first_to ops site zero = zero
first_to ops site (suc n) = if is_borne ops (at site n) then first_to ops site n else suc n

-- the row that comes to a stamp
abbrev pub correction_to : List Op → Stamp → Correction
correction_to ops s = record { site = s.site; first = first_to ops s.site s.counter; last = s.counter }

-- its site made no operation of the next counter
abbrev pub is_end : List Op → Stamp → Bool
is_end ops s = not (is_borne ops (at s.site (s.counter + 1)))

-- the last stamps of all corrections, in order
abbrev pub ends : List Op → List Stamp
ends ops = filter (is_end ops) (stamps ops)

-- by their last stamps
abbrev pub corrections : List Op → List Correction
corrections ops = map (correction_to ops) (ends ops)

-- ---- as they are found

-- the counter of a site's first operation, or 0
abbrev pub next_of : List Op → ℕ → ℕ
next_of [] site = 0
next_of (op ∷ ops) site = if (stamp_of op).site == site then (stamp_of op).counter else next_of ops site

-- that of each site, 0 behind the end of a list
abbrev pub AreNext : List Op → List ℕ → Type 0
AreNext ops next = (site : ℕ) → slice_index_or next site 0 ≡ next_of ops site

-- the last stamps of corrections, newest first, and the next counter of each site
pub record AreEnds (ops : List Op) (lasts : List Stamp) (next : List ℕ) : Type 0 where
  pub whole : reverse lasts ≡ ends ops
  pub behind : AreNext ops next
