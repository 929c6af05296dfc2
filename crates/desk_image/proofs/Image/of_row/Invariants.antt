use Rattle.std.proofs.Common.{take}
use Rattle.desk_image.specs.Images.{Shows}
use Rattle.desk_image.proofs.Image.of_row.Given as goal

abbrev pub invariant-loop-signal : goal.invariant-loop-signal
invariant-loop-signal l = Shows l.bits (take l.signal-index l.signal-items)
