use Rattle.std.proofs.Common.{◌≡◌, ◌+◌, ◌∙◌, ap, sym, refl, subst, arith, cond, Some, List}
use Rattle.std.specs.Option.{is_some}
use Rattle.std.proofs.lemmas.Bool.{true≢false}
use Rattle.desk_ops.specs.Op.{target_of}
use Rattle.desk_ops.specs.OpSet.{with_op, size}
use Rattle.desk_ops.proofs.Unions.{size-with_op}
use Rattle.desk_seq.specs.declared.Entry.{Entry}
use Rattle.desk_walk.specs.Following.{IsSettled, IsArrival}
use Rattle.desk_walk.proofs.Arrived.{put-absent, untargeted, unplaced}
use Rattle.desk_walk.proofs.enter.Goals as goal

pub returns-in_default-clause-settled : goal.returns-in_default-clause-settled
returns-in_default-clause-settled g c = λ h a.
    untargeted h c.args.op (g.Q.Sequence.entries c.args.sequence.now) c.args.room.now.ops a
    (λ t. true≢false (sym t ∙ ap is_some (sym c.target.ensures ∙ c.in_default.is)))

pub put-requires-clause-absent : goal.put-requires-clause-absent
put-requires-clause-absent g c = put-absent c.requires.arrives.0 c.args.op (g.Q.Sequence.entries c.args.sequence.now) c.args.room.now.ops c.requires.arrives.1

pub arrive-requires-clause-arrives : goal.arrive-requires-clause-arrives
arrive-requires-clause-arrives g c = (c.requires.arrives.0, subst (λ (xs : List Entry). IsArrival c.requires.arrives.0 c.args.op xs c.args.room.now.ops) (sym c.place_of.ensures.same) c.requires.arrives.1)

pub returns-in-None-clause-settled : goal.returns-in-None-clause-settled
returns-in-None-clause-settled g c = λ h a.
    let es = g.Q.Sequence.entries c.args.sequence.now in
    let w = c.args.room.now.ops in
    let t : target_of c.args.op ≡ Some c.in-Some.target = sym c.target.ensures ∙ c.in-Some.is in
    subst (λ (xs : List Entry). IsSettled (with_op h c.args.op) xs c.put.new.self.ops) (sym c.place_of.ensures.same)
    (subst (IsSettled (with_op h c.args.op) es) (sym c.put.ensures.put)
    (unplaced h c.args.op es w a c.in-Some.target t (ap is_some t) (c.in-None.ensures.none refl)))

more : goal.returns-in-None-clause-few
more g c =
    let w = c.args.room.now.ops in
    let n : size c.put.new.self.ops ≡ size w + 1 = ap size c.put.ensures.put ∙ size-with_op w c.args.op
    ∙ ap (λ b. cond b (size w) (size w + 1)) (put-absent c.requires.arrives.0 c.args.op (g.Q.Sequence.entries c.args.sequence.now) w c.requires.arrives.1) in
    omega (arith, n)

pub returns-in-None-clause-few : goal.returns-in-None-clause-few
returns-in-None-clause-few g c = more g c

pub returns-in-None-clause-free : goal.returns-in-None-clause-free
returns-in-None-clause-free g c = let n = more g c in omega (arith, n)
