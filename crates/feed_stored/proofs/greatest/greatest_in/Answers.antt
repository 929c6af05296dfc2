use Rattle.std.proofs.Common.{◌≡◌, ◌≤◌, ◌∙◌, ap, length, arith}
use Rattle.desk_ops.specs.OpSet.{in_order, size}
use Rattle.desk_ops.proofs.OpSets.{length-in_order}
use Rattle.feed_stored.specs.Greatest.{greatest_from, greatest_of}
use Rattle.feed_stored.proofs.Counters.{last_turn, next_turn}
use Rattle.feed_stored.proofs.greatest.greatest_in.Goals as goal

pub turns-preserved : goal.turns-preserved
turns-preserved g c = record {
  within = omega (arith, c.min-until.ensures);
  so_far = next_turn c.turns.greatest c.greatest_from-greatest.result (greatest_of c.args.replica.now.ops c.args.site) (in_order c.args.replica.now.ops) c.in_ok-ops.ops.items c.turns.from c.min-until.result c.args.site
      (omega (arith, c.min-until.ensures, c.turns-test.true)) c.in_ok-ops.ensures.items (c.greatest_from-greatest.ensures ∙ ap (λ l. greatest_from c.turns.greatest l c.args.site) c.deref.ensures.value) c.turns.invariant.so_far;
}

pub returns : goal.returns
returns g c =
    let all : length (in_order c.args.replica.now.ops) ≡ size c.args.replica.now.ops = length-in_order c.args.replica.now.ops in
    last_turn c.turns.greatest (greatest_of c.args.replica.now.ops c.args.site) (in_order c.args.replica.now.ops) c.turns.from c.args.site (omega (arith, all, c.len-len.ensures.value, c.turns-test.false)) c.turns.invariant.so_far
