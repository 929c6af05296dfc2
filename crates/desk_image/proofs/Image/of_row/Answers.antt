use Rattle.std.proofs.Common.{◌∙◌, rules}
use Rattle.desk_image.proofs.Bits.{shows_more, shown_row, shifted_one}
use Rattle.desk_image.proofs.Image.of_row.Goals as goal

pub loop-signal-preserved : goal.loop-signal-preserved
loop-signal-preserved c =
    shows_more c.loop-signal.bits _ c.as_slice-signal-items.result.now c.loop-signal.signal-index _ c.loop-signal-test.true
    (shifted_one _ _ c.bit.ensures.value c.bit.ensures.small) c.loop-signal.invariant

pub returns : goal.returns
returns c =
    c.new.ensures
    ∙ shown_row c.loop-signal.bits c.loop-signal.signal-index c.as_slice-signal-items.result.now c.args.row (search rules) (search rules)
    c.loop-signal.invariant
