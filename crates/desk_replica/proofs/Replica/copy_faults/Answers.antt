use Rattle.std.proofs.Common.{◌≡◌, ◌∙◌, [], sym, ap}
use Rattle.std.proofs.lemmas.Bool.{true≢false}
use Rattle.desk_ops.specs.Faults.{faults_of}
use Rattle.desk_replica.proofs.Faultless.{faultless, none_waits, none_forks}
use Rattle.desk_replica.proofs.Replica.copy_faults.Goals.{else-is_empty-via-then-is_empty+else-is_unforked, else-is_empty-via-else-is_empty}
use Rattle.desk_replica.proofs.Replica.copy_faults.Goals as goal

pub returns-then-is_unforked-clause-faults : goal.returns-then-is_unforked-clause-faults
returns-then-is_unforked-clause-faults g c =
    let own = c.self.inside in
    let kept = c.self.invariant in
    c.new.ensures.items
    ∙ sym (faultless own.held.ops kept.held.lawful own.room.ops kept.settled.waits (c.is_empty.ensures.0 c.if-is_empty.true) (c.is_unforked.ensures.0 c.if-is_unforked.true))
    ∙ ap (λ s. faults_of s.ops) c.self.view_is

pub returns-clause-none : goal.returns-clause-none
returns-clause-none g c = λ e.
    let own = c.self.inside in
    let kept = c.self.invariant in
    let none : faults_of own.held.ops ≡ [] = ap (λ s. faults_of s.ops) c.self.view_is ∙ e in
    elim c.else-is_empty.branch [
      | else-is_empty-via-then-is_empty+else-is_unforked w ↦ absurd (true≢false (sym (w.is_unforked.ensures.1 (none_forks own.held.ops kept.held.lawful own.room.ops kept.settled.waits none)) ∙ w.if-is_unforked.false))
      | else-is_empty-via-else-is_empty w ↦ absurd (true≢false (sym (c.is_empty.ensures.1 (none_waits own.held.ops kept.held.lawful own.room.ops kept.settled.waits none)) ∙ w.if-is_empty.false))
    ]
