use Rattle.std.proofs.Common.{string_bytes}
use Rattle.view_picture.proofs.NextLine.{next_line}
use Rattle.view_picture.proofs.lines.put_lines.Goals as goal

pub loop-line-preserved : goal.loop-line-preserved
loop-line-preserved g c =
    next_line c.args.terms.now c.args.copy.now c.args.paper c.args.lines.now c.line-item.result c.loop-line.line-index (string_bytes c.loop-line.out) (string_bytes c.put_line.new.out) _
    c.loop-line-test.true c.line-item.is c.in_ok-put_line.ensures c.loop-line.invariant
