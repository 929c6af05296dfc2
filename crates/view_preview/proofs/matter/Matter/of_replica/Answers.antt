use Rattle.std.proofs.Common.{ap, arith, length, subst, sym}
use Rattle.desk_replica.specs.declared.settings.Settings.{Settings}
use Rattle.desk_job.specs.Answer.{AreValues}
use Rattle.desk_job.proofs.Replicas.{copy_short, settings_in}
use Rattle.view_preview.proofs.matter.Matter.of_replica.Goals as goal

pub invariant_of-result : goal.invariant_of-result
invariant_of-result g c =
    let set = c.args.replica.now.ops in
    let short = copy_short set c.copy.ensures.lawful in
    let long = ap length c.in_ok-copy.ensures.copy in
    (omega (arith, short, long, c.copy.ensures.within), subst (λ (s : Settings). AreValues s) (sym c.settings.ensures) (settings_in set c.copy.ensures.lawful))
