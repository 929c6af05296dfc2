use Rattle.std.proofs.Common.{◌<◌, length, take, subst, arith}
use Rattle.std.proofs.lemmas.List.{length-take-le}
use Rattle.std.specs.List.{insert}
use Rattle.desk_seq.specs.declared.Entry.{Entry}
use Rattle.desk_blocks.specs.Tally.{IsTally}
use Rattle.desk_blocks.proofs.Tallies.{tally-next}
use Rattle.desk_blocks.proofs.tally.TallySummarySlot.of.Goals as goal

pub loop-slot-preserved : goal.loop-slot-preserved
loop-slot-preserved c =
    let page = c.args.page.now in
    let k = c.loop-slot.slot-index in
    let l : k < length page = omega arith in
    let n = length-take-le k page (omega arith) in
    tally-next c.with-tally.result page k c.slot-item.result l (subst (λ (e : Entry). IsTally c.with-tally.result (insert (take k page) (length (take k page)) e)) c.slot-item.is (c.with-tally.ensures (take k page) (length (take k page)) (omega (arith, c.requires)) (omega arith) c.loop-slot.invariant))
