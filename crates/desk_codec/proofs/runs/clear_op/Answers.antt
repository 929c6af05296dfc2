use Rattle.std.proofs.Common.{◌<◌, length, sym, arith}
use Rattle.desk_codec.proofs.RunPlaces.{none-sole, another-at, clear-at, forked-at}
use Rattle.desk_codec.proofs.runs.clear_op.Goals as goal

pub returns-then-place-ops-clause-sole : goal.returns-then-place-ops-clause-sole
returns-then-place-ops-clause-sole c = sym (none-sole c.args.ops.now c.requires.rising c.args.place c.args.stamp c.requires.within (λ d some. c.requires.smaller d) c.requires.found (λ d lt. absurd (omega arith)))

pub returns-then-not-is_same-clause-sole : goal.returns-then-not-is_same-clause-sole
returns-then-not-is_same-clause-sole c =
    let within : c.args.place < length c.args.ops.now = omega arith in
    sym (none-sole c.args.ops.now c.requires.rising c.args.place c.args.stamp c.requires.within (λ d some. c.requires.smaller d) c.requires.found
    (λ d lt. another-at c.args.ops.now c.args.place _ c.args.stamp c.stamp.result c.is_same.result within c.stamp.ensures c.is_same.ensures c.if-not-is_same.true d))

pub returns-then-is_clear_at-clause-sole : goal.returns-then-is_clear_at-clause-sole
returns-then-is_clear_at-clause-sole c =
    let within : c.args.place < length c.args.ops.now = omega arith in
    clear-at c.args.ops.now c.args.place _ c.args.stamp c.stamp.result c.is_same.result within c.stamp.ensures c.is_same.ensures c.is_clear_at.result c.if-not-is_same.false c.is_clear_at.ensures c.if-is_clear_at.true

pub returns-else-is_clear_at-clause-sole : goal.returns-else-is_clear_at-clause-sole
returns-else-is_clear_at-clause-sole c =
    let within : c.args.place < length c.args.ops.now = omega arith in
    forked-at c.args.ops.now c.args.place _ c.args.stamp c.stamp.result c.is_same.result within c.stamp.ensures c.is_same.ensures c.is_clear_at.result c.if-not-is_same.false c.is_clear_at.ensures c.if-is_clear_at.false
