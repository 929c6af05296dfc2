use Rattle.std.proofs.Common.{◌∙◌, ap, subst}
use Rattle.desk_ops.specs.OpSet.{in_order, AllLawful}
use Rattle.desk_replica.proofs.Merges.{merge-order, merge-other, merge-one}
use Rattle.desk_replica.proofs.Replica.merge.Goals as goal

pub returns-in-Ok-clause-other_order : goal.returns-in-Ok-clause-other_order
returns-in-Ok-clause-other_order g c =
    merge-other c.args.self.now.ops c.args.other.now.ops c.take_all.new.self.ops
    (subst AllLawful (ap (λ s. s.ops) c.self.view_is) c.self.invariant.held.lawful)
    (subst AllLawful (ap (λ s. s.ops) c.other.view_is) c.other.invariant.held.lawful)
    c.deref.result.now (c.deref.ensures.value ∙ c.in-Ok.ensures.items ∙ ap (λ s. in_order s.ops) c.other.view_is)
    c.take_all.result c.take_all.ensures.ok c.take_all.ensures.stopped

pub returns-in-Ok-clause-one_order : goal.returns-in-Ok-clause-one_order
returns-in-Ok-clause-one_order g c =
    merge-one c.args.self.now.ops c.args.other.now.ops c.take_all.new.self.ops
    (subst AllLawful (ap (λ s. s.ops) c.self.view_is) c.self.invariant.held.lawful)
    (subst AllLawful (ap (λ s. s.ops) c.other.view_is) c.other.invariant.held.lawful)
    c.deref.result.now (c.deref.ensures.value ∙ c.in-Ok.ensures.items ∙ ap (λ s. in_order s.ops) c.other.view_is)
    c.take_all.result c.take_all.ensures.ok c.take_all.ensures.stopped

pub returns-in-Err-clause-order : goal.returns-in-Err-clause-order
returns-in-Err-clause-order g c =
    merge-order c.args.self.now.ops c.args.other.now.ops c.take_each.new.self.ops
    (subst AllLawful (ap (λ s. s.ops) c.self.view_is) c.self.invariant.held.lawful)
    (subst AllLawful (ap (λ s. s.ops) c.other.view_is) c.other.invariant.held.lawful)
    (in_order c.other.inside.held.ops) (ap (λ s. in_order s.ops) c.other.view_is)
    c.take_each.result c.take_each.ensures.ok c.take_each.ensures.stopped

pub returns-in-Err-clause-other_order : goal.returns-in-Err-clause-other_order
returns-in-Err-clause-other_order g c =
    merge-other c.args.self.now.ops c.args.other.now.ops c.take_each.new.self.ops
    (subst AllLawful (ap (λ s. s.ops) c.self.view_is) c.self.invariant.held.lawful)
    (subst AllLawful (ap (λ s. s.ops) c.other.view_is) c.other.invariant.held.lawful)
    (in_order c.other.inside.held.ops) (ap (λ s. in_order s.ops) c.other.view_is)
    c.take_each.result c.take_each.ensures.ok c.take_each.ensures.stopped

pub returns-in-Err-clause-one_order : goal.returns-in-Err-clause-one_order
returns-in-Err-clause-one_order g c =
    merge-one c.args.self.now.ops c.args.other.now.ops c.take_each.new.self.ops
    (subst AllLawful (ap (λ s. s.ops) c.self.view_is) c.self.invariant.held.lawful)
    (subst AllLawful (ap (λ s. s.ops) c.other.view_is) c.other.invariant.held.lawful)
    (in_order c.other.inside.held.ops) (ap (λ s. in_order s.ops) c.other.view_is)
    c.take_each.result c.take_each.ensures.ok c.take_each.ensures.stopped
