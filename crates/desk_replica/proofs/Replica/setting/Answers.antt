use Rattle.std.proofs.Common.{ap, ◌∙◌}
use Rattle.desk_ops.specs.Settings.{setting_of}
use Rattle.desk_registers.specs.Registers.{kept}
use Rattle.desk_replica.proofs.KeptSets.{value_is}
use Rattle.desk_replica.proofs.Replica.setting.Goals as goal

pub returns : goal.returns
returns g c = c.value.ensures ∙ value_is c.self.inside.held.ops c.args.key (kept c.self.inside.registers c.args.key) (c.self.invariant.settings c.args.key) ∙ ap (λ s. setting_of s.ops c.args.key) c.self.view_is
