use Rattle.std.proofs.Common.{List, sym, subst, ◌∙◌}
use Rattle.std.specs.Prelude.{T}
use Rattle.desk_ops.specs.declared.op.Op.{Op}
use Rattle.desk_ops.specs.OpSet.{is_rising}
use Rattle.desk_codec.proofs.GroupLaws.{set_rises}
use Rattle.test_copy.proofs.runs.feed_of.Goals as goal

pub write_runs-requires-clause-rising : goal.write_runs-requires-clause-rising
write_runs-requires-clause-rising g c = subst (λ (l : List Op). T (is_rising l)) (sym (c.deref.ensures.value ∙ c.in_ok-ops.ensures.items)) (set_rises _)
