use Rattle.std.proofs.Common.{◌∙◌, ap, sym, subst, refl, length, arith}
use Rattle.std.proofs.lemmas.List.{get_or_default}
use Rattle.desk_ops.specs.OpSet.{with_all}
use Rattle.desk_held.proofs.Joins.{gained-more}
use Rattle.desk_replica.specs.State.{AreApart}
use Rattle.desk_replica.proofs.Sets.{take-none, drop-none}
use Rattle.desk_replica.proofs.Unforked.{apart-here, apart-rest, entered-size}
use Rattle.desk_replica.proofs.Replica.enter_all.Goals as goal

pub loop-op-init : goal.loop-op-init
loop-op-init g c =
    let ops = c.args.ops.now in
    let h = c.args.self.now.ops in
    record {
      gained = ap (with_all h) (sym (take-none ops));
      site = refl;
      apart = subst (AreApart h) (sym (drop-none ops)) c.requires.apart;
      below = omega (arith, c.requires.below);
      spare = omega (arith, c.requires.spare);
    }

pub enter-requires-clause-new : goal.enter-requires-clause-new
enter-requires-clause-new g c =
    let ops = c.args.ops.now in
    let i = c.loop-op.op-index in
    apart-here c.loop-op.self.ops ops i _ c.loop-op-test.true (get_or_default ops i _ _ c.loop-op-test.true) c.loop-op.invariant.apart

pub loop-op-preserved : goal.loop-op-preserved
loop-op-preserved g c =
    let ops = c.args.ops.now in
    let i = c.loop-op.op-index in
    let h = c.loop-op.self.ops in
    record {
      gained = gained-more c.args.self.now.ops h _ ops i _ c.loop-op-test.true (get_or_default ops i _ _ c.loop-op-test.true) c.loop-op.invariant.gained c.enter.ensures.ops;
      site = c.enter.ensures.site ∙ c.loop-op.invariant.site;
      apart = apart-rest h ops i _ c.loop-op-test.true (get_or_default ops i _ _ c.loop-op-test.true) c.loop-op.invariant.apart _ c.enter.ensures.ops;
      below = entered-size h _ _ (length ops) i c.enter.ensures.ops c.loop-op.invariant.below;
      spare = omega (arith, c.loop-op.invariant.spare, c.enter.ensures.spare);
    }
