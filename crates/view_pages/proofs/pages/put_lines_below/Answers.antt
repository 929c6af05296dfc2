use Rattle.std.proofs.Common.{string_bytes}
use Rattle.view_pages.proofs.NextPage.{next_line}
use Rattle.view_pages.proofs.pages.put_lines_below.Goals as goal

pub loop-above-preserved : goal.loop-above-preserved
loop-above-preserved g c =
    next_line c.args.terms.now c.args.copy.now c.args.paper c.args.lines.now c.index-lines-above.result c.loop-above.above c.foot-y.result (string_bytes c.loop-above.out) (string_bytes c.put_linked_line.new.out) _
    c.loop-above-test.true c.index-lines-above.is c.foot-y.ensures.value c.in_ok-put_linked_line.ensures c.loop-above.invariant
