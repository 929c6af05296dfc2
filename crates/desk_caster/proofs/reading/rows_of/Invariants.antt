use Rattle.std.proofs.Common.{◌≡◌, ◌+◌, ◌*◌, ◌≤◌, ◌++◌, length, vec_capacity}
use Rattle.std.specs.List.{AllByRecursion, flat_map}
use Rattle.desk_signals.specs.Rows.{IsRow}
use Rattle.desk_ribbon.specs.Ribbon.{image_bytes}
use Rattle.desk_caster.proofs.reading.rows_of.Given as goal

-- what is read, what is left, and that there is room for it
abbrev pub invariant-loop-place : goal.invariant-loop-place
invariant-loop-place g l =
    record {
      read : l.images ≡ flat_map image_bytes l.rows.items ++ l.rest;
      rows : AllByRecursion IsRow l.rows.items;
      there : length l.rows.items ≡ l.place;
      left : length l.rest + 4 * l.place ≡ 4 * l.number;
      room : l.number ≤ vec_capacity l.rows;
    }
