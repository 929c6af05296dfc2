use Rattle.std.proofs.Common.{◌≡◌, ◌≤◌, ◌<◌, ◌-◌, ◌^◌, ◌++◌, length}
use Rattle.desk_image.specs.Images.{signals_in}
use Rattle.desk_image.proofs.Image.signals.Given as goal

-- the signals found and those of the bits that are left are all, and there is room for as many as there are bits left
abbrev pub invariant-loop-rest : goal.invariant-loop-rest
invariant-loop-rest l = record {
  found : signals_in l.fn.self ≡ l.signals.items ++ signals_in l.rest;
  room : length l.signals.items ≤ 31;
  left : l.rest < 2 ^ (31 - length l.signals.items);
}

abbrev pub decreases-loop-rest : goal.decreases-loop-rest
decreases-loop-rest l = l.rest
