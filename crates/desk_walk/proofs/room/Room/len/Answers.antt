use Rattle.std.proofs.Common.{◌∙◌, sym, ap}
use Rattle.desk_ops.specs.OpSet.{size}
use Rattle.desk_walk.specs.Waiting.{Waiting}
use Rattle.desk_walk.proofs.Sets.{set-size}
use Rattle.desk_walk.proofs.room.Room.len.Goals as goal

pub returns : goal.returns
returns g c = c.len.ensures ∙ sym (set-size c.self.inside.ops.entries c.self.invariant.in_turn) ∙ ap (λ (w : Waiting). size w.ops) c.self.view_is
