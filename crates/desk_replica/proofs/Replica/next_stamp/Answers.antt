use Rattle.std.proofs.Common.{ℕ, ◌<◌, ap, ◌∙◌, subst}
use Rattle.desk_ops.specs.OpSet.{size}
use Rattle.desk_ops.specs.Held.{greatest_counter_of}
use Rattle.desk_ops.specs.Stamp.{max_counter}
use Rattle.desk_replica.proofs.Made.{refused_none}
use Rattle.desk_replica.proofs.Replica.next_stamp.Goals as goal

pub returns-clause-free : goal.returns-clause-free
returns-clause-free g c =
    refused_none c.args.self.now.ops (λ e. c.if-len-eq-LIMIT.false (c.len.ensures.value ∙ ap (λ s. size s.ops) c.self.view_is ∙ e))
    (subst (λ (n : ℕ). n < max_counter) (c.greatest_counter-counter.ensures ∙ ap (λ s. greatest_counter_of s.ops) c.self.view_is) c.if-counter-ge-MAX_COUNTER.false)
