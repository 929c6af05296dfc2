use Rattle.std.proofs.Common.{◌∙◌, ℕ, ◌≤◌, subst}
use Rattle.desk_ops.specs.OpSet.{max_ops}
use Rattle.feed_readings.proofs.Sets.{crowded, lawful_common}
use Rattle.feed_readings.proofs.merged.common_of.Goals as goal

pub open-requires-clause-lawful : goal.open-requires-clause-lawful
open-requires-clause-lawful g c = lawful_common c.args.other.now.ops c.args.ops.now c.deref.result.now (c.deref.ensures.value ∙ c.in_ok-held.ensures) c.requires.lawful

pub unreachable-requires : goal.unreachable-requires
unreachable-requires g c =
    crowded c.args.other.now.ops c.args.ops.now c.deref.result.now (c.deref.ensures.value ∙ c.in_ok-held.ensures) (subst (λ (n : ℕ). n ≤ max_ops) c.len-len.ensures.value c.len-len.ensures.within) (c.in-Err.ensures.full c.in-Full.is)
