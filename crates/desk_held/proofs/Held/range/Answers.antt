use Rattle.std.proofs.Common.{◌∙◌, arith}
use Rattle.desk_held.proofs.Ranges.{copied-more}
use Rattle.desk_held.proofs.Held.range.Goals as goal

pub loop-at-preserved : goal.loop-at-preserved
loop-at-preserved g c =
    let ops = c.self.inside.ops.entries in
    let part = c.stretch-part.result.now in
    record {
      begun = omega (arith, c.loop-at.invariant.begun);
      within = omega (arith, c.min-many.ensures, c.loop-at.invariant.within);
      copied = c.in_ok-append.ensures ∙ copied-more ops c.loop-at.list.items part c.args.from c.loop-at.at c.min-many.result c.loop-at.invariant.begun (omega (arith, c.min-many.ensures)) c.stretch-part.ensures.is c.loop-at.invariant.copied;
    }
