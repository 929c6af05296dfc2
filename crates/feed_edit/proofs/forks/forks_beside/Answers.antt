use Rattle.std.proofs.Common.{◌∙◌}
use Rattle.std.proofs.lemmas.Result.{IfOk-weaker}
use Rattle.feed_edit.specs.Forks.{AreForkedBeside, AreFreshForks}
use Rattle.feed_edit.proofs.Forking.{beside}
use Rattle.feed_edit.proofs.forks.forks_beside.Goals as goal

pub returns-clause-forks : goal.returns-clause-forks
returns-clause-forks g c =
    IfOk-weaker c.forks_among.result (λ v. AreFreshForks c.args.known.now c.deref.result.now v.items) (λ v. AreForkedBeside c.args.known.now c.args.replica.now.ops v.items)
    (λ v fresh. beside c.args.known.now c.args.replica.now.ops c.deref.result.now v.items c.len.ensures.lawful (c.deref.ensures.value ∙ c.in_ok-faults.ensures.faults) fresh) c.forks_among.ensures.stamps
