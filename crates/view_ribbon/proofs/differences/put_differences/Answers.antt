use Rattle.std.proofs.Common.{◌++◌, rules, string_bytes}
use Rattle.view_ribbon.specs.Differences.{differences_from}
use Rattle.view_ribbon.proofs.Pairs.{one_step, other_step, pair_step}
use Rattle.view_ribbon.proofs.differences.put_differences.Goals as goal

pub pairs-preserved-then-ones-lt1 : goal.pairs-preserved-then-ones-lt1
pairs-preserved-then-ones-lt1 g c =
    let end = string_bytes c.args.out.now ++ differences_from c.args.scale.now 0 c.args.lines.now c.args.others.now in (
      other_step c.args.scale.now c.pairs.before c.pairs.ones.now c.pairs.rest.now c.b-item.result (string_bytes c.pairs.out) (string_bytes c.put_other.new.out) end (search rules) (search rules) c.b-item.is c.in_ok-put_other-in-empty-len1-up.ensures
          c.pairs.invariant.0,
      search rules,
      search rules,
    )

pub pairs-preserved-then-this-lt1 : goal.pairs-preserved-then-this-lt1
pairs-preserved-then-this-lt1 g c =
    let end = string_bytes c.args.out.now ++ differences_from c.args.scale.now 0 c.args.lines.now c.args.others.now in (
      one_step c.args.scale.now c.pairs.before c.pairs.ones.now c.pairs.rest.now c.a-item.result (string_bytes c.pairs.out) (string_bytes c.put_one.new.out) end (search rules) (search rules) c.a-item.is c.in_ok-put_one-in-len1-up-empty.ensures
          c.pairs.invariant.0,
      search rules,
      search rules,
    )

pub pairs-preserved : goal.pairs-preserved
pairs-preserved g c =
    let end = string_bytes c.args.out.now ++ differences_from c.args.scale.now 0 c.args.lines.now c.args.others.now in (
      pair_step c.args.scale.now c.pairs.before c.pairs.ones.now c.pairs.rest.now c.a-item-in-pairs.result c.b-item-in-pairs.result (string_bytes c.pairs.out) (string_bytes c.put_pair.new.out) end (search rules) (search rules) c.a-item-in-pairs.is
          c.b-item-in-pairs.is c.in_ok-put_pair-in-len1-up-len1-up.ensures c.pairs.invariant.0,
      search rules,
      search rules,
    )
