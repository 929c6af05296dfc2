use Rattle.std.proofs.Common.{◌≡◌, ◌+◌, ◌∙◌, ℕ, ap, sym, subst, List, Some}
use Rattle.std.specs.List.{insert}
use Rattle.desk_ops.specs.declared.op.Stamp.{Stamp}
use Rattle.desk_ops.specs.declared.op.Symbol.{Symbol}
use Rattle.desk_ops.specs.declared.op.Op.{Op}
use Rattle.desk_ops.specs.declared.op.Op.TheVariants.{Insert, Delete}
use Rattle.desk_ops.specs.Op.{target_of}
use Rattle.desk_ops.specs.OpSet.{OpSet, has_op, with_op}
use Rattle.desk_ops.proofs.Joined.{lawful-with_op}
use Rattle.desk_seq.specs.declared.Entry.{Entry}
use Rattle.desk_walk.specs.Following.{place_at, new_entry, IsDraining, IsSettled, IsArrival}
use Rattle.desk_walk.proofs.Arrived.{arrival-absent, stands, marks}
use Rattle.desk_walk.proofs.arrive.Goals as goal

-- an arrival that is known to be an insert, or a delete
as-op : (h : OpSet) (o q : Op) (es : List Entry) (w : OpSet) → o ≡ q → IsArrival h o es w → IsArrival h q es w
as-op h o q es w is a = subst (λ (v : Op). IsArrival h v es w) is a

on-place : (o q : Op) (s : Stamp) → o ≡ q → target_of o ≡ Some s → target_of q ≡ Some s
on-place o q s is t = sym (ap target_of is) ∙ t

pub stand-place-requires-clause-absent : goal.stand-place-requires-clause-absent
stand-place-requires-clause-absent g c =
    let i = c.in-Insert in
    let es = g.Q.Sequence.entries c.args.sequence.now in
    let w = c.args.room.now.ops in
    arrival-absent c.requires.arrives.0 i.stamp i.parent i.symbol es w (as-op c.requires.arrives.0 c.args.op (Insert i.stamp i.parent i.symbol) es w i.is c.requires.arrives.1)

draining : (h : OpSet) (o : Op) (es fs : List Entry) (w : OpSet) (s p : Stamp) (y : Symbol) (at place : ℕ) → o ≡ Insert s p y → fs ≡ insert es place (new_entry s y)
    → IsDraining (with_op h (Insert s p y)) (has_op w) (insert es place (new_entry s y)) (place + 1) (place + 1) → IsDraining (with_op h o) (has_op w) fs (place + 1) (place + 1)
draining h o es fs w s p y at place is eq d =
    subst (λ (v : Op). IsDraining (with_op h v) (has_op w) fs (place + 1) (place + 1)) (sym is)
    (subst (λ (gs : List Entry). IsDraining (with_op h (Insert s p y)) (has_op w) gs (place + 1) (place + 1)) (sym eq) d)

pub drain-requires-clause-follows : goal.drain-requires-clause-follows
drain-requires-clause-follows g c =
    let i = c.in-Insert in
    let h = c.requires.arrives.0 in
    let a = c.requires.arrives.1 in
    let es = g.Q.Sequence.entries c.args.sequence.now in
    let w = c.args.room.now.ops in
    let o : Op = Insert i.stamp i.parent i.symbol in
    let on : i.parent ≡ place_at es c.args.at = (let t : Some i.parent ≡ Some (place_at es c.args.at) = on-place c.args.op o (place_at es c.args.at) i.is c.requires.target in cc) in
    let e = c.stand-place.ensures in (
      with_op h c.args.op,
      lawful-with_op h c.args.op a.lawful a.own,
      draining h c.args.op es (g.Q.Sequence.entries c.stand-place.new.sequence) w i.stamp i.parent i.symbol c.args.at c.stand-place.result i.is e.put
          (stands h i.stamp i.parent i.symbol es w (as-op h c.args.op o es w i.is a) c.requires.distinct c.args.at c.requires.within on c.stand-place.result e.first),
    )

pub returns-in-Insert-clause-settled : goal.returns-in-Insert-clause-settled
returns-in-Insert-clause-settled g c = λ h a.
    let i = c.in-Insert in
    let es = g.Q.Sequence.entries c.args.sequence.now in
    let w = c.args.room.now.ops in
    let o : Op = Insert i.stamp i.parent i.symbol in
    let on : i.parent ≡ place_at es c.args.at = (let t : Some i.parent ≡ Some (place_at es c.args.at) = on-place c.args.op o (place_at es c.args.at) i.is c.requires.target in cc) in
    let e = c.stand-place.ensures in
    c.drain.ensures.settled (with_op h c.args.op) (lawful-with_op h c.args.op a.lawful a.own)
    (draining h c.args.op es (g.Q.Sequence.entries c.stand-place.new.sequence) w i.stamp i.parent i.symbol c.args.at c.stand-place.result i.is e.put
    (stands h i.stamp i.parent i.symbol es w (as-op h c.args.op o es w i.is a) c.requires.distinct c.args.at c.requires.within on c.stand-place.result e.first))

pub returns-in-Delete-clause-settled : goal.returns-in-Delete-clause-settled
returns-in-Delete-clause-settled g c = λ h a.
    let d = c.in-Delete in
    let es = g.Q.Sequence.entries c.args.sequence.now in
    let w = c.args.room.now.ops in
    let o : Op = Delete d.stamp d.target in
    let on : d.target ≡ place_at es c.args.at = (let t : Some d.target ≡ Some (place_at es c.args.at) = on-place c.args.op o (place_at es c.args.at) d.is c.requires.target in cc) in
    subst (λ (v : Op). IsSettled (with_op h v) (g.Q.Sequence.entries c.mark.new.self) w) (sym d.is)
    (subst (λ (gs : List Entry). IsSettled (with_op h o) gs w) (sym c.mark.ensures.marked)
    (marks h d.stamp d.target es w (as-op h c.args.op o es w d.is a) c.requires.distinct c.args.at c.requires.within on))
