use Rattle.std.proofs.Common.{◌≡◌, ◌∙◌, ap, subst, sym}
use Rattle.std.specs.Prelude.{IfOk}
use Rattle.desk_ops.specs.Op.{stamp_of}
use Rattle.desk_ops.specs.OpSet.{in_order}
use Rattle.desk_ops.specs.Faults.{faults_of}
use Rattle.desk_ops.proofs.Faulty.{faults_by_stamp}
use Rattle.desk_ops.proofs.Means.{ordered}
use Rattle.desk_walk.specs.Following.{entries_of}
use Rattle.desk_replica.specs.Seats.{Rise, fault_stamp}
use Rattle.feed_history.specs.Rows.{bearing_by}
use Rattle.feed_history.specs.Spots.{spot_stamp, spots_from}
use Rattle.feed_history.specs.Asked.{asked_lines}
use Rattle.feed_history.proofs.Alike.{asked_alike}
use Rattle.feed_history.specs.Taken.{AreTold}
use Rattle.desk_replica.proofs.ByStamp.{ops_rise}
use Rattle.feed_history.proofs.Rows.{faults_rise}
use Rattle.feed_history.proofs.Told.{told}
use Rattle.feed_history.proofs.log.log_of.Goals as goal

pub asked_lines-requires-clause-rising : goal.asked_lines-requires-clause-rising
asked_lines-requires-clause-rising g c = subst (Rise stamp_of) (sym (c.deref.ensures.value ∙ c.in_ok-ops.ensures.items)) (ops_rise (in_order c.args.replica.now.ops) (ordered c.args.replica.now.ops))

pub asked_lines-requires-clause-told : goal.asked_lines-requires-clause-told
asked_lines-requires-clause-told g c =
    let h = c.args.replica.now.ops in
    subst (λ l. AreTold l c.deref-2.result.now) (sym (c.deref.ensures.value ∙ c.in_ok-ops.ensures.items)) (subst (λ l. AreTold (in_order h) l) (sym c.deref-2.ensures.value)
    (told h c.in_ok-spots.spots.items (λ s. c.in_ok-spots.ensures.same s ∙ ap (λ es. bearing_by spot_stamp (spots_from 0 es) s) c.sequence.ensures)))

pub asked_lines-requires-clause-faults : goal.asked_lines-requires-clause-faults
asked_lines-requires-clause-faults g c = subst (Rise fault_stamp) (sym (c.deref-3.ensures.value ∙ c.in_ok-faults.ensures.faults)) (faults_rise (faults_of c.args.replica.now.ops) (faults_by_stamp c.args.replica.now.ops))

pub returns : goal.returns
returns g c =
    let h = c.args.replica.now.ops in
    let asked = c.args.asked.now in
    let spots = c.in_ok-spots.spots.items in
    let faults = faults_of h in
    subst (λ t. IfOk c.asked_lines.result (λ v. v.items ≡ t))
    (ap (λ l. asked_lines l c.deref-2.result.now c.deref-3.result.now asked) (c.deref.ensures.value ∙ c.in_ok-ops.ensures.items)
    ∙ ap (λ l. asked_lines (in_order h) l c.deref-3.result.now asked) c.deref-2.ensures.value
    ∙ ap (λ l. asked_lines (in_order h) spots l asked) (c.deref-3.ensures.value ∙ c.in_ok-faults.ensures.faults)
    ∙ asked_alike spots (spots_from 0 (entries_of h)) (λ s. c.in_ok-spots.ensures.same s ∙ ap (λ es. bearing_by spot_stamp (spots_from 0 es) s) c.sequence.ensures) (in_order h) faults asked)
    c.asked_lines.ensures
