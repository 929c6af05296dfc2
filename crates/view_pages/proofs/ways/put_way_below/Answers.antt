use Rattle.std.proofs.Common.{◌≡◌, ◌∙◌, ◌+◌, ◌++◌, List, ap, sym, subst, string_bytes}
use Rattle.std.specs.Prelude.{OnOk, codes, option_to_list}
use Rattle.desk_job.specs.declared.JobFault.{JobFault}
use Rattle.view_proof.proofs.Texts.{three}
use Rattle.view_picture.specs.Lines.{text_at}
use Rattle.view_pages.proofs.Texts.{pushed_as}
use Rattle.view_pages.specs.Ways.{way_if_any}
use Rattle.view_pages.proofs.ways.put_way_below.Goals as goal

pub returns : goal.returns
returns g c =
    subst (λ (faults : List JobFault). OnOk c.push_str.result (string_bytes c.push_str.new.self ≡ string_bytes c.args.out.now ++ way_if_any c.args.terms.now c.args.copy.now c.args.paper c.args.y c.args.line.now faults))
    (sym (ap option_to_list c.in-Some.is) ∙ c.fault.ensures)
    (three c.push_str.result (string_bytes c.args.out.now) (string_bytes c.put_text_at.new.out) (string_bytes c.put_escaped_way.new.out) (string_bytes c.push_str.new.self) _ _ _
    (c.in_ok-put_text_at.ensures ∙ ap (λ x. string_bytes c.args.out.now ++ text_at (codes "y") x (c.args.y + 600)) c.beside.ensures)
    c.in_ok-put_escaped_way.ensures
    (pushed_as c.push_str.result (string_bytes c.put_escaped_way.new.out) (string_bytes c.push_str.new.self) _ _ c.push_str.ensures.bytes c.text_end.ensures))
