use Rattle.std.proofs.Common.{◌≡◌, ◌∙◌, ◌++◌, List, ap, sym, subst, string_bytes}
use Rattle.std.specs.Prelude.{OnOk, codes, if◌then◌else◌, option_to_list}
use Rattle.std.specs.Result.{is_ok}
use Rattle.desk_job.specs.declared.JobFault.{JobFault}
use Rattle.view_galley.specs.Svg.{text_end}
use Rattle.view_proof.specs.Faults.{cause_and_limits}
use Rattle.view_proof.proofs.Texts.{three}
use Rattle.view_picture.specs.Lines.{fault_text, text_at}
use Rattle.view_picture.proofs.Texts.{pushed}
use Rattle.view_picture.proofs.lines.put_fault.Goals as goal

pub returns : goal.returns
returns g c =
    subst (λ (faults : List JobFault). OnOk c.push_str.result (string_bytes c.push_str.new.self ≡ string_bytes c.args.out.now ++ fault_text c.args.terms.now c.args.paper c.args.y c.args.line.now faults))
    (sym (ap option_to_list c.in-Some.is) ∙ c.fault.ensures)
    (three c.push_str.result (string_bytes c.args.out.now) (string_bytes c.put_text_at.new.out) (string_bytes c.put_cause.new.out) (string_bytes c.push_str.new.self) _ _ _
    (c.in_ok-put_text_at.ensures ∙ ap (λ x. string_bytes c.args.out.now ++ text_at (codes "c") x c.args.y) c.beside.ensures)
    (c.in_ok-put_cause.ensures ∙ ap (λ sum. string_bytes c.put_text_at.new.out ++ cause_and_limits c.args.paper.scale sum c.in-Some.fault) c.wedge_sum.ensures)
    (pushed c.push_str.result (string_bytes c.put_cause.new.out) (string_bytes c.push_str.new.self) text_end
    (c.push_str.ensures.bytes ∙ ap (λ text. if is_ok c.push_str.result then string_bytes c.put_cause.new.out ++ text else string_bytes c.put_cause.new.out) c.text_end.ensures)))
