use Rattle.std.proofs.Common.{◌∙◌, length, refl, sym, arith}
use Rattle.desk_ops.specs.Stamp.{head}
use Rattle.desk_held.proofs.Rises.{part-rises, part-last, part-falls}
use Rattle.desk_held.proofs.Stretches.{next-part}
use Rattle.desk_held.proofs.rising.all_rise.Goals as goal

pub returns-in_default : goal.returns-in_default
returns-in_default g c =
    sym (part-falls head c.loop-at.last c.args.ops.now.entries c.stretch-part.result.now c.loop-at.at c.stretch-part.ensures.is c.loop-at.invariant.is (c.in_default.ensures.none refl))

pub loop-at-preserved : goal.loop-at-preserved
loop-at-preserved g c =
    let ops = c.args.ops.now.entries in
    let part = c.stretch-part.result.now in
    let inv = c.loop-at.invariant in
    let next = next-part ops part c.loop-at.at (length part) c.stretch-part.ensures.is inv.within (omega arith) in
    record {
      within = next.fits;
      up = part-rises head c.loop-at.last ops part c.loop-at.at c.stretch-part.ensures.is inv.is inv.up c.in-Some.ensures.some.0;
      is = c.in-Some.ensures.some.1 ∙ part-last head c.loop-at.last ops part c.loop-at.at c.stretch-part.ensures.is inv.is;
    }
