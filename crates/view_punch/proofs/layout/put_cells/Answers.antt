use Rattle.std.proofs.Common.{◌++◌, ◌∙◌, ap, string_bytes}
use Rattle.desk_signals.specs.declared.Cell.{Cell}
use Rattle.desk_case.specs.Case.{symbol_at}
use Rattle.view_punch.specs.Layout.{held_text}
use Rattle.view_punch.proofs.Texts.{no_cells, one_cell}
use Rattle.view_punch.proofs.layout.put_cells.Goals as goal

pub loop-at-init : goal.loop-at-init
loop-at-init g c = no_cells c.args.case.now c.args.row (string_bytes c.args.out.now)

pub loop-at-preserved : goal.loop-at-preserved
loop-at-preserved g c =
    let before = string_bytes c.loop-at.out in
    one_cell c.args.case.now c.args.row (string_bytes c.args.out.now) before (string_bytes c.put_held.new.out) c.loop-at.at c.loop-at.invariant
    (c.in_ok-put_held.ensures ∙ ap (λ (cell : Cell). before ++ held_text c.args.case.now cell (symbol_at c.args.case.now cell)) c.shown_cell.ensures)
