use Rattle.std.proofs.Common.{sym, ◌∙◌}
use Rattle.script_world.proofs.Members.{all_held_by, at_all}
use Rattle.script_world.proofs.world.World.holds_at.Goals as goal

pub returns-in-Some : goal.returns-in-Some
returns-in-Some g c = λ h.
    let self = c.args.self.now in
    let op = c.args.op.now in
    sym (all_held_by self op) ∙ at_all self c.args.site op (c.in-Some.replica.now.ops, sym c.in-Some.ensures.ops, sym c.has.ensures ∙ h)
