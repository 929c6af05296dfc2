use Rattle.std.proofs.Common.{◌≡◌, true, take}
use Rattle.desk_held.specs.Rising.{rise_from, last_from}
use Rattle.desk_held.proofs.rising.rise.Given as goal

-- those so far rise, and which stamp is the last
abbrev pub invariant-loop-slot : goal.invariant-loop-slot
invariant-loop-slot l = record {
  up : rise_from l.fn.from (take l.slot-index l.part) ≡ true;
  is : l.last ≡ last_from l.fn.from (take l.slot-index l.part);
}
