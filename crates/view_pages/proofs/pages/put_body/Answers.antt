use Rattle.std.proofs.Common.{ap, ◌∙◌, ◌++◌, string_bytes}
use Rattle.view_proof.proofs.Texts.{three}
use Rattle.view_pages.proofs.Texts.{pushed_as}
use Rattle.view_pages.specs.Pages.{body_text, lines_text}
use Rattle.view_pages.proofs.pages.put_body.Goals as goal

pub returns : goal.returns
unfolding body_text
returns g c =
    three c.push_str.result (string_bytes c.args.out.now) (string_bytes c.put_frame_of.new.out) (string_bytes c.put_lines.new.out) (string_bytes c.push_str.new.self) _ _ _
    c.in_ok-put_frame_of.ensures
    (c.in_ok-put_lines.ensures ∙ ap (λ t. string_bytes c.put_frame_of.new.out ++ lines_text t c.args.copy.now c.args.paper c.args.lines.now) c.terms.ensures)
    (pushed_as c.push_str.result (string_bytes c.put_lines.new.out) (string_bytes c.push_str.new.self) _ _ c.push_str.ensures.bytes c.sheet_end.ensures)
