use Rattle.std.proofs.Common.{length, ap, ◌∙◌, subst, sym, arith}
use Rattle.desk_replica.specs.declared.settings.Settings.{Settings}
use Rattle.desk_job.specs.Answer.{AreValues}
use Rattle.desk_job.proofs.Replicas.{copy_short, settings_in}
use Rattle.desk_job.proofs.ribbon.make.Goals as goal

pub make_from-requires-clause-copy : goal.make_from-requires-clause-copy
make_from-requires-clause-copy g c =
    let short = copy_short c.args.replica.now.ops c.copy.ensures.lawful in
    let long = ap length (c.deref.ensures.value ∙ c.in_ok-copy.ensures.copy) in
    omega (arith, short, long, c.copy.ensures.within)

pub make_from-requires-clause-settings : goal.make_from-requires-clause-settings
make_from-requires-clause-settings g c =
    subst (λ (s : Settings). AreValues s) (sym c.settings.ensures) (settings_in c.args.replica.now.ops c.copy.ensures.lawful)
