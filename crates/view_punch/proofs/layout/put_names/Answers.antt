use Rattle.std.proofs.Common.{◌++◌, ◌∙◌, ap, string_bytes}
use Rattle.desk_signals.specs.Words.{column_name}
use Rattle.desk_signals.specs.declared.Cell.{Cell}
use Rattle.view_proof.specs.Parts.{right}
use Rattle.view_punch.proofs.Texts.{no_names, one_name}
use Rattle.view_punch.proofs.layout.put_names.Goals as goal

pub loop-at-init : goal.loop-at-init
loop-at-init g c = no_names (string_bytes c.args.out.now)

pub loop-at-preserved : goal.loop-at-preserved
loop-at-preserved g c =
    let before = string_bytes c.loop-at.out in
    one_name (string_bytes c.args.out.now) before (string_bytes c.put_right.new.out) c.loop-at.at c.loop-at.invariant
    (c.in_ok-put_right.ensures ∙ ap (λ t. before ++ right 4 t) (c.name.ensures ∙ ap (λ (cell : Cell). column_name cell.column) c.shown_cell.ensures))
