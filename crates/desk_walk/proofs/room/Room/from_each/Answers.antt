use Rattle.std.proofs.Common.{◌≡◌, ◌∙◌, sym, ap, refl, arith}
use Rattle.desk_walk.specs.Waiting.{Waiting}
use Rattle.desk_walk.proofs.Sets.{taken-more, taken-known}
use Rattle.desk_walk.proofs.room.Room.from_each.Goals as goal
use Rattle.desk_walk.proofs.room.Room.from_each.Goals.{then-not-has, else-not-has}

pub loop-i-preserved : goal.loop-i-preserved
loop-i-preserved g c = elim c.if-not-has.branch [
  | then-not-has w ↦ (taken-more c.args.ops.now c.loop-i.i c.loop-i.room.ops _ _ _ c.loop-i-test.true refl c.loop-i.invariant.0 (ap (λ (r : Waiting). r.ops) w.room-is ∙ w.put.ensures.put), (let spare : c.if-not-has.room.spare ≡ w.put.new.self.spare = ap (λ (r : Waiting). r.spare) w.room-is in omega (arith, spare, c.loop-i.invariant.1, w.put.ensures.spare)))
  | else-not-has w ↦ (ap (λ (r : Waiting). r.ops) w.room-is ∙ taken-known c.args.ops.now c.loop-i.i c.loop-i.room.ops _ _ c.loop-i-test.true refl c.loop-i.invariant.0 (sym c.has.ensures ∙ w.if-not-has.false), (let spare : c.if-not-has.room.spare ≡ c.loop-i.room.spare = ap (λ (r : Waiting). r.spare) w.room-is in omega (arith, spare, c.loop-i.invariant.1)))
]
