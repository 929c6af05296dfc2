use Rattle.std.proofs.Common.{string_bytes}
use Rattle.view_punch.proofs.Texts.{no_lines, one_line}
use Rattle.view_punch.proofs.layout.put_lines.Goals as goal

pub loop-row-init : goal.loop-row-init
loop-row-init g c = no_lines c.args.case.now (string_bytes c.args.out.now)

pub loop-row-preserved : goal.loop-row-preserved
loop-row-preserved g c =
    one_line c.args.case.now (string_bytes c.args.out.now) (string_bytes c.loop-row.out) (string_bytes c.put_line.new.out) c.loop-row.row c.loop-row.invariant c.in_ok-put_line.ensures
