use Rattle.std.proofs.Common.{◌≡◌, List, ◌++◌, ap, sym, ◌∙◌, subst, string_bytes}
use Rattle.std.specs.Prelude.{OnOk}
use Rattle.std.specs.List.{All}
use Rattle.view_galley.specs.Values.{LineValues}
use Rattle.view_proof.proofs.Texts.{three}
use Rattle.view_proof.specs.Lines.{HasWords}
use Rattle.view_proof.specs.Proof.{scale_of}
use Rattle.view_proof.specs.declared.scale.Scale.{Scale}
use Rattle.view_pages.specs.Lists.{sorts_list}
use Rattle.view_pages.specs.Report.{troubles_text}
use Rattle.view_pages.specs.Table.{table_text}
use Rattle.view_pages.proofs.report.put_troubles.Goals as goal

pub returns : goal.returns
unfolding troubles_text
returns g c =
    three c.put_table.result (string_bytes c.args.out.now) (string_bytes c.put_faults_list.new.out) (string_bytes c.put_sorts_list.new.out) (string_bytes c.put_table.new.out) _ _ _
    c.in_ok-put_faults_list.ensures (c.in_ok-put_sorts_list.ensures ∙ ap (λ l. string_bytes c.put_faults_list.new.out ++ sorts_list c.args.copy.now l) c.lacking.ensures)
    (subst (λ (ls : List LineValues). OnOk c.put_table.result (string_bytes c.put_table.new.out ≡ string_bytes c.put_sorts_list.new.out ++ table_text c.args.copy.now (scale_of c.args.galley.now) ls)) c.lines.ensures
    (subst (λ (s : Scale). OnOk c.put_table.result (string_bytes c.put_table.new.out ≡ string_bytes c.put_sorts_list.new.out ++ table_text c.args.copy.now s c.lines.result.now)) c.scale_of.ensures c.put_table.ensures))
