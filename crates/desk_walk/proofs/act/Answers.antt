use Rattle.std.proofs.Common.{◌≡◌, ◌-◌, ◌∙◌, ap, length, arith}
use Rattle.desk_walk.proofs.Lists.{length-mark}
use Rattle.desk_walk.proofs.act.Goals as goal

pub returns-in-Delete-clause-reach : goal.returns-in-Delete-clause-reach
returns-in-Delete-clause-reach g c =
    let es = g.Q.Sequence.entries c.args.sequence.now in
    let n : length (g.Q.Sequence.entries c.mark.new.self) ≡ length es = ap length c.mark.ensures.marked ∙ length-mark es (c.args.at - 1) in
    omega (arith, n)

pub returns-in-Delete-clause-more : goal.returns-in-Delete-clause-more
returns-in-Delete-clause-more g c =
    let es = g.Q.Sequence.entries c.args.sequence.now in
    let n : length (g.Q.Sequence.entries c.mark.new.self) ≡ length es = ap length c.mark.ensures.marked ∙ length-mark es (c.args.at - 1) in
    omega (arith, n)
