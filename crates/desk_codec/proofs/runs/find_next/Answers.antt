use Rattle.std.proofs.Common.{sym, ◌∙◌}
use Rattle.desk_codec.proofs.RunChains.{before-next, next-found}
use Rattle.desk_codec.proofs.runs.find_next.Goals as goal

pub seek-place-requires-clause-smaller : goal.seek-place-requires-clause-smaller
seek-place-requires-clause-smaller c = λ d. before-next c.args.stamp _ (c.requires.borne d)

pub returns-then-is_same-clause-some : goal.returns-then-is_same-clause-some
returns-then-is_same-clause-some c =
    next-found c.args.ops.now c.args.stamp c.seek-place.result c.in-Some-Insert.field-0 c.in-Some-Insert.field-0-0 c.in-Some-Insert.parent c.in-Some-Insert.symbol c.in-Some-Insert.field-0-is c.in-Some-Insert.ensures.sole (sym c.is_same.ensures ∙ c.if-is_same.true) c.in-Some-Insert.ensures.there
