use Rattle.std.proofs.Common.{arith, rules}
use Rattle.std.proofs.lemmas.Grind.{common_steps}
use Rattle.feed_files.proofs.storing.store.Goals as goal

pub returns-in_err-new-clause-small : goal.returns-in_err-new-clause-small
returns-in_err-new-clause-small g c = search rules steps 2000000

pub returns-in_err-new-clause-missing : goal.returns-in_err-new-clause-missing
returns-in_err-new-clause-missing g c = search rules steps 2000000

pub returns-in_err-new-clause-counted : goal.returns-in_err-new-clause-counted
returns-in_err-new-clause-counted g c = search rules steps 2000000

pub returns-in_err-write_new-clause-missing : goal.returns-in_err-write_new-clause-missing
returns-in_err-write_new-clause-missing g c = search rules steps 2000000

pub returns-in_err-write_new-clause-counted : goal.returns-in_err-write_new-clause-counted
returns-in_err-write_new-clause-counted g c = search rules steps 2000000

pub returns-in_err-write_new-clause-err : goal.returns-in_err-write_new-clause-err
returns-in_err-write_new-clause-err g c = search rules steps 2000000

pub returns-clause-counted : goal.returns-clause-counted
returns-clause-counted g c = search rules steps 2000000

pub returns-clause-err : goal.returns-clause-err
returns-clause-err g c = search rules steps 2000000

pub returns-clause-missing : goal.returns-clause-missing
returns-clause-missing g c = search rules steps 2000000

pub returns-clause-ok : goal.returns-clause-ok
returns-clause-ok g c = grind (arith, common_steps)
