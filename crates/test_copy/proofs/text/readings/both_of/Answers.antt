use Rattle.std.proofs.Common.{◌∙◌, ap}
use Rattle.desk_ops.specs.OpSet.{OpSet, union}
use Rattle.desk_ops.proofs.Unions.{with_all-in_order}
use Rattle.test_copy.proofs.text.readings.both_of.Goals as goal

pub returns : goal.returns
returns c =
    let one = c.args.one.now.ops in
    let other = c.args.other.now.ops in
    c.in_ok-merge-2.ensures.ok
    ∙ ap (λ (set : OpSet). union set other) (c.in_ok-merge.ensures.ok ∙ ap (λ (set : OpSet). union set one) c.new-both.ensures.ops ∙ with_all-in_order one)
