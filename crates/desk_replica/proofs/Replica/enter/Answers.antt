use Rattle.std.proofs.Common.{◌≡◌, ◌≤◌, ◌<◌, ◌∙◌, ap, sym, subst, arith, false}
use Rattle.desk_ops.specs.Op.{stamp_of}
use Rattle.desk_ops.specs.OpSet.{size, max_ops}
use Rattle.desk_ops.specs.Held.{is_borne_in}
use Rattle.desk_registers.specs.Registers.{kept}
use Rattle.desk_replica.specs.Shows.{spare_of}
use Rattle.desk_replica.proofs.KeptSets.{other-new}
use Rattle.desk_replica.proofs.Known.{not_known}
use Rattle.desk_replica.proofs.Sound.{arrival, sound-more, spare-parts}
use Rattle.desk_replica.proofs.Replica.enter.Goals as goal

pub put-requires-clause-absent : goal.put-requires-clause-absent
put-requires-clause-absent g c = not_known c.self.inside.held.ops c.args.op (ap (λ s. is_borne_in s.ops (stamp_of c.args.op)) c.self.view_is ∙ c.requires.new)

pub keep-requires : goal.keep-requires
keep-requires g c = other-new c.self.inside.held.ops c.args.op (ap (λ s. is_borne_in s.ops (stamp_of c.args.op)) c.self.view_is ∙ c.requires.new) (kept c.self.inside.registers) c.self.invariant.settings

pub enter-self-inside-requires-clause-arrives : goal.enter-self-inside-requires-clause-arrives
enter-self-inside-requires-clause-arrives g c = (
  c.self.inside.held.ops,
  arrival c.self.inside.site c.self.inside.held.ops c.args.op c.self.inside.registers (g.Q.Sequence.entries c.self.inside.sequence) c.self.inside.room.ops (g.Q.Sequence.free c.self.inside.sequence) c.self.invariant c.requires.lawful
      (ap (λ s. is_borne_in s.ops (stamp_of c.args.op)) c.self.view_is ∙ c.requires.new),
)

pub invariant_of-self : goal.invariant_of-self
invariant_of-self g c =
    let h = c.self.inside.held.ops in
    let es = g.Q.Sequence.entries c.self.inside.sequence in
    let w = c.self.inside.room.ops in
    let free = g.Q.Sequence.free c.self.inside.sequence in
    let new : is_borne_in h (stamp_of c.args.op) ≡ false = ap (λ s. is_borne_in s.ops (stamp_of c.args.op)) c.self.view_is ∙ c.requires.new in
    let e : spare_of c.self.inside.held.spare c.self.inside.room.spare free w ≡ c.args.self.now.spare = ap (λ s. s.spare) c.self.view_is in
    let s : 1 ≤ spare_of c.self.inside.held.spare c.self.inside.room.spare free w = omega (arith, e, c.requires.spare) in
    let parts = spare-parts 1 c.self.inside.held.spare c.self.inside.room.spare free w c.self.invariant.fits s in
    let below : size w < free = omega (arith, parts.2) in
    sound-more c.self.inside.site h c.args.op c.self.inside.registers es w free c.self.invariant c.requires.lawful new
    c.put.new.self.ops c.keep.new.registers (g.Q.Sequence.entries c.enter-self-inside.new.sequence) c.enter-self-inside.new.room.ops (g.Q.Sequence.free c.enter-self-inside.new.sequence)
    c.put.ensures.ops c.keep.ensures
    (c.enter-self-inside.ensures.settled h (arrival c.self.inside.site h c.args.op c.self.inside.registers es w free c.self.invariant c.requires.lawful new))
    c.enter-self-inside.ensures.few below c.enter-self-inside.ensures.free (subst (λ s. size s.ops < max_ops) (sym c.self.view_is) c.requires.below)
