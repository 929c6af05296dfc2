use Rattle.std.proofs.Common.{ap, ◌∙◌, ◌++◌, string_bytes}
use Rattle.view_proof.proofs.Texts.{four}
use Rattle.view_proof.specs.Faults.{cause_and_limits}
use Rattle.view_pages.proofs.Texts.{pushed_as}
use Rattle.view_pages.specs.Table.{cells_text}
use Rattle.view_pages.proofs.table.put_cells.Goals as goal

pub returns : goal.returns
unfolding cells_text
returns g c =
    four c.push_str-2.result (string_bytes c.args.out.now) (string_bytes c.put_cause.new.out) (string_bytes c.push_str.new.self) (string_bytes c.put_escaped_way.new.out) (string_bytes c.push_str-2.new.self) _ _ _ _
    (c.in_ok-put_cause.ensures ∙ ap (λ sum. string_bytes c.args.out.now ++ cause_and_limits c.args.scale sum c.args.fault) c.wedge_sum.ensures)
    (c.in_ok-push_str.ensures.bytes ∙ ap (λ t. string_bytes c.put_cause.new.out ++ t) c.cell_next.ensures)
    c.in_ok-put_escaped_way.ensures
    (pushed_as c.push_str-2.result (string_bytes c.put_escaped_way.new.out) (string_bytes c.push_str-2.new.self) _ _ c.push_str-2.ensures.bytes c.row_end.ensures)
