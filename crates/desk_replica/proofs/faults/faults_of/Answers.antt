use Rattle.std.proofs.Common.{ℕ, ◌≤◌, length, ◌∙◌, sym, ap, subst, arith}
use Rattle.desk_ops.specs.Faults.{copy_faults}
use Rattle.desk_replica.proofs.Ends.{reported-all}
use Rattle.desk_replica.proofs.faults.faults_of.Goals as goal

pub pass-requires-clause-order : goal.pass-requires-clause-order
pass-requires-clause-order g c = record { set = c.args.held.now.ops; lawful = c.requires; is = c.deref.ensures.value ∙ c.in_ok-ops.ensures.items }

pub returns : goal.returns
returns g c =
    reported-all c.in_ok-ops.ops.items c.loop-place.place c.loop-place.hanging.items c.loop-place.faults.items
    (omega (arith, c.loop-place-test.false, c.len-place-end.ensures)) c.loop-place.invariant ∙ ap copy_faults c.in_ok-ops.ensures.items
