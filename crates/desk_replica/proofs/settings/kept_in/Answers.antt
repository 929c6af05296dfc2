use Rattle.std.proofs.Common.{◌+◌, subst, sym, ◌∙◌, ap}
use Rattle.desk_registers.specs.Registers.{kept}
use Rattle.desk_registers.specs.declared.Registers.{Registers}
use Rattle.desk_ops.specs.OpSet.{in_order}
use Rattle.desk_replica.proofs.Passes.{clear_before}
use Rattle.desk_replica.proofs.KeptSets.{AreKeptOf, pass-clear, pass-idle, pass-apart, pass-all}
use Rattle.desk_replica.proofs.settings.kept_in.Goals as goal
use Rattle.desk_replica.proofs.settings.kept_in.Goals.{then-sets, else-sets}

pub keep-requires : goal.keep-requires
keep-requires g c =
    pass-apart c.args.held.now.ops c.args.ops.now c.requires c.loop-op.op-index _ c.loop-op-test.true (kept c.loop-op.registers)
    (c.sets.ensures.yes c.if-sets.true) c.loop-op.invariant

pub loop-op-preserved : goal.loop-op-preserved
loop-op-preserved g c =
    elim c.if-sets.branch [
      | then-sets w ↦
          pass-clear c.args.held.now.ops c.args.ops.now c.requires c.loop-op.op-index _ c.loop-op-test.true (kept c.loop-op.registers) (kept c.if-sets.registers)
          (c.sets.ensures.yes w.if-sets.true) c.loop-op.invariant (λ key. ap (λ (r : Registers). kept r key) w.registers-is ∙ w.keep.ensures key)
      | else-sets w ↦
          subst (λ (r : Registers). AreKeptOf (clear_before (in_order c.args.held.now.ops) (c.loop-op.op-index + 1)) (kept r)) (sym w.registers-is)
          (pass-idle c.args.held.now.ops c.args.ops.now c.requires c.loop-op.op-index _ c.loop-op-test.true (kept c.loop-op.registers)
          (c.sets.ensures.no w.if-sets.false) c.loop-op.invariant)
    ]

pub returns : goal.returns
returns g c = pass-all c.args.held.now.ops c.args.ops.now c.requires c.loop-op.op-index (kept c.loop-op.registers) c.loop-op-test.false c.loop-op.invariant
