use Rattle.std.proofs.Common.{◌≡◌, ◌<◌, ◌^◌, ◌∙◌, ap, drop, length, arith}
use Rattle.std.proofs.lemmas.List.Sorted.{All-permutation}
use Rattle.feed_history.specs.Corrections.{ends}
use Rattle.feed_history.proofs.Ends.{ends_begun}
use Rattle.feed_history.proofs.corrections.ends_of.Goals as goal

pub loop-at-init : goal.loop-at-init
loop-at-init g c = record {
  within = omega arith;
  so_far = ends_begun c.args.ops.now c.in_ok-ends.ends.items c.new-next.result.items c.in_ok-ends.ensures.items c.new-next.ensures.items;
  small = λ k d lt. let none : length c.in_ok-ends.ends.items ≡ 0 = ap length c.in_ok-ends.ensures.items in absurd (omega (arith, none, lt));
}

pub returns-clause-ends : goal.returns-clause-ends
returns-clause-ends g c =
    let done : c.loop-at.at ≡ 0 = omega (arith, c.loop-at-test.false) in
    c.reverse.ensures.items ∙ c.loop-at.invariant.so_far.whole ∙ ap (λ n. ends (drop n c.args.ops.now)) done

pub returns-clause-small : goal.returns-clause-small
returns-clause-small g c = All-permutation (λ s. s.counter < 2 ^ 63) c.loop-at.ends.items c.reverse.new.self.items c.reverse.ensures.permutation c.loop-at.invariant.small
