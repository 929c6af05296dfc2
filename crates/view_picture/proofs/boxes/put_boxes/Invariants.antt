use Rattle.std.proofs.Common.{◌≡◌, ◌≤◌, ◌+◌, ◌-◌, ◌*◌, ◌^◌, ◌++◌, string_bytes}
use Rattle.view_picture.specs.Boxes.{boxes_text}
use Rattle.view_picture.proofs.boxes.put_boxes.Given as goal

abbrev pub invariant-loop : goal.invariant-loop
invariant-loop g l =
    (string_bytes l.out ++ boxes_text l.paper l.y l.width l.from (l.count - l.counter) ≡ string_bytes l.fn.out ++ boxes_text l.paper l.y l.width l.here l.count)
    × (l.from ≤ l.here + l.counter * 2 ^ 64)
