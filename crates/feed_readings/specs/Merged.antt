-- The readings of two sets of operations: where what they make together is not the three-way merge of their copies.
use Rattle.std.specs.Prelude.{◌⊎◌, List, map}
use Rattle.std.specs.List.{filter}
use Rattle.desk_ops.specs.declared.op.Op.{Op}
use Rattle.desk_ops.specs.Op.{Insertion}
use Rattle.desk_ops.specs.OpSet.{OpSet, IsWithin, has_op, in_order, no_ops, union, with_all}
use Rattle.desk_ops.specs.Shown.{shown_of}
use Rattle.desk_seq.specs.declared.Entry.{Entry}
use Rattle.desk_seq.specs.Entries.{is_shown}
use Rattle.feed_readings.specs.declared.reading.Reading.{Reading}
use Rattle.feed_readings.specs.declared.reading.Shown.{Shown}
use Rattle.feed_readings.specs.Readings.{open_readings}

abbrev pub inserted : Insertion → Shown
inserted x = record { stamp = x.stamp; symbol = x.symbol }

abbrev pub entered : Entry → Shown
entered e = record { stamp = e.stamp; symbol = e.symbol }

-- the elements that a set shows, from the first to the last
abbrev pub shown_list : OpSet → List Shown
shown_list set = map inserted (shown_of set)

-- those of a list of entries: all that are not deleted
abbrev pub shown_entries : List Entry → List Shown
shown_entries entries = map entered (filter is_shown entries)

-- the operations of both
abbrev pub common_ops : OpSet → List Op → List Op
common_ops other ops = filter (has_op other) ops

-- the set that two have in common
abbrev pub in_common : OpSet → OpSet → OpSet
in_common one other = with_all no_ops (common_ops other (in_order one))

abbrev pub readings_of : OpSet → OpSet → List Reading
readings_of one other =
    open_readings (shown_list (in_common one other)) (shown_list one) (shown_list other) (shown_list (union one other))

-- one of two sets holds all that the other does
abbrev pub HoldsOther : OpSet → OpSet → Type 0
HoldsOther one other = IsWithin other one ⊎ IsWithin one other
