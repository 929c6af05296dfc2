use Rattle.std.proofs.Common.{ap, sym, subst}
use Rattle.desk_ops.specs.declared.op.Op.TheVariants.{Set}
use Rattle.desk_ops.specs.Op.{IsLawful}
use Rattle.desk_replica.specs.Edits.{IsSetTo}
use Rattle.desk_replica.proofs.Made.{set-lawful, set_to, on_made}
use Rattle.desk_replica.proofs.Replica.set.Goals as goal

pub make-requires-clause-lawful : goal.make-requires-clause-lawful
make-requires-clause-lawful g c =
    subst (λ s. IsLawful (Set s c.args.key c.args.value)) (sym c.in_ok-stamp.ensures.stamp)
    (set-lawful c.args.self.now c.args.key c.args.value c.in_ok-stamp.ensures.kept c.in_ok-stamp.ensures.clock (sym c.if-not-takes.ensures))

pub returns-clause-made : goal.returns-clause-made
returns-clause-made g c =
    on_made (IsSetTo c.args.self.now c.make.new.self c.args.key c.args.value) c.make.result c.args.self.now.ops c.make.new.self.ops _ c.make.ensures.op c.make.ensures.ok
    (set_to c.args.self.now c.make.new.self c.args.key c.args.value _ c.in_ok-stamp.ensures.kept c.in_ok-stamp.ensures.clock (sym c.if-not-takes.ensures) (ap (λ s. Set s c.args.key c.args.value) c.in_ok-stamp.ensures.stamp))
