use Rattle.std.proofs.Common.{◌≡◌, ◌≤◌, ◌+◌, ◌*◌, ◌^◌, ◌++◌, string_bytes, drop}
use Rattle.std.specs.List.{zip}
use Rattle.view_picture.specs.Boxes.{fills_text}
use Rattle.view_picture.proofs.boxes.put_fills.Given as goal

abbrev pub invariant-loop-i : goal.invariant-loop-i
invariant-loop-i g l =
    (string_bytes l.out ++ fills_text l.paper l.y l.next (zip (drop l.i l.counts) (drop l.i l.widths)) ≡ string_bytes l.fn.out ++ fills_text l.paper l.y l.here (zip l.counts l.widths))
    × (l.next ≤ l.here + l.i * 2 ^ 96)
