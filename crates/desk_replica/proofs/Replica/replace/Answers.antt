use Rattle.desk_replica.proofs.Sound.{sound-anew}
use Rattle.desk_replica.proofs.Replica.replace.Goals as goal

pub invariant_of-self : goal.invariant_of-self
invariant_of-self g c =
    sound-anew c.self.inside.site c.args.held.ops c.args.registers (g.Q.Sequence.entries c.args.sequence) c.args.room.ops (g.Q.Sequence.free c.args.sequence)
    c.self.invariant.held.numbered c.requires.lawful c.requires.few c.requires.kept c.requires.settled c.requires.waiting c.requires.free
