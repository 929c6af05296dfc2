use Rattle.std.proofs.Common.{ap, ap₂, not, sym, ◌∙◌}
use Rattle.desk_ops.specs.OrderLaws.{op_tie}
use Rattle.feed_sites.specs.Moving.{differ}
use Rattle.feed_sites.proofs.collisions.differ.Goals as goal

pub returns-in-Some-Some : goal.returns-in-Some-Some
returns-in-Some-Some c = c.ne.ensures ∙ ap not (op_tie c.in-Some-Some.one c.in-Some-Some.other) ∙ sym (ap₂ differ c.in-Some-Some.is-0 c.in-Some-Some.is-1)
