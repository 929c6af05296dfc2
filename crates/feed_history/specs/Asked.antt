-- Which corrections are asked for, and their lines.
use Rattle.std.specs.Prelude.{ℕ, ◌==◌, Bool, true, ◌||◌, ◌&&◌, nat_le, List, [], ◌∷◌, ◌++◌, Option, Some, None}
use Rattle.std.specs.Prelude.{if◌then◌else◌}
use Rattle.std.specs.Borrow.{Bor}
use Rattle.desk_ops.specs.declared.op.Stamp.{Stamp}
use Rattle.desk_ops.specs.declared.op.Symbol.{Symbol}
use Rattle.desk_ops.specs.declared.op.Op.{Op}
use Rattle.desk_ops.specs.declared.fault.CopyFault.{CopyFault}
use Rattle.desk_ops.specs.Op.{stamp_of}
use Rattle.feed_history.specs.declared.corrections.Correction.{Correction}
use Rattle.feed_history.specs.declared.spots.Spot.{Spot}
use Rattle.feed_history.specs.declared.asked.Asked.{Asked}
use Rattle.desk_replica.specs.Seats.{fault_stamp}
use Rattle.feed_history.specs.Rows.{row_of}
use Rattle.feed_history.specs.Corrections.{correction_to, ends}
use Rattle.feed_history.specs.Spots.{place_of}
use Rattle.feed_history.specs.Texts.{contains, deleted, inserted}
use Rattle.feed_history.specs.Lines.{line}

-- its last stamp is of the site
abbrev pub is_of : Option ℕ → Stamp → Bool
is_of None last = true
is_of (Some site) last = last.site == site

-- its last counter is no smaller
abbrev pub is_since : Option ℕ → Stamp → Bool
is_since None last = true
is_since (Some counter) last = nat_le counter last.counter

-- a text is in what was inserted, or in what was deleted
abbrev pub has_text : Option (Bor (List Symbol)) → List Symbol → List Symbol → Bool
has_text None inserted deleted = true
has_text (Some text) inserted deleted = contains text.now inserted || contains text.now deleted

-- the line of a correction
abbrev pub line_of : List Op → List Spot → List CopyFault → Correction → List ℕ
line_of ops spots faults correction =
    line correction (place_of spots (row_of stamp_of ops correction)) (row_of stamp_of ops correction)
    (inserted (row_of stamp_of ops correction)) (deleted ops (row_of stamp_of ops correction))
    (row_of fault_stamp faults correction)

-- whether a correction is asked for, by its last stamp and its operations
abbrev pub is_asked : List Op → Asked → Stamp → List Op → Bool
is_asked ops asked last row =
    is_of asked.site last && is_since asked.since last && has_text asked.text (inserted row) (deleted ops row)

-- the line of the correction that ends with a stamp, if it is asked for
abbrev pub asked_line : List Op → List Spot → List CopyFault → Asked → Stamp → List ℕ
asked_line ops spots faults asked last =
    if is_asked ops asked last (row_of stamp_of ops (correction_to ops last))
    then line_of ops spots faults (correction_to ops last) else []

abbrev pub lines_from : List Op → List Spot → List CopyFault → Asked → List Stamp → List ℕ
lines_from ops spots faults asked [] = []
lines_from ops spots faults asked (last ∷ lasts) =
    asked_line ops spots faults asked last ++ lines_from ops spots faults asked lasts

abbrev pub asked_lines : List Op → List Spot → List CopyFault → Asked → List ℕ
asked_lines ops spots faults asked = lines_from ops spots faults asked (ends ops)
