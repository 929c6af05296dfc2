use Rattle.std.proofs.Common.{ap₂, ◌∙◌, ◌++◌, string_bytes}
use Rattle.view_picture.specs.Lines.{lines_text}
use Rattle.std.specs.Prelude.{codes}
use Rattle.view_picture.proofs.Texts.{five, pushed}
use Rattle.view_picture.proofs.picture.put_group.Goals as goal

pub returns : goal.returns
returns g c =
    five c.push_str-3.result (string_bytes c.args.out.now) (string_bytes c.push_str.new.self) (string_bytes c.put_attribute.new.out) (string_bytes c.push_str-2.new.self) (string_bytes c.put_lines.new.out) (string_bytes c.push_str-3.new.self) _ _ _ _ _
    c.in_ok-push_str.ensures.bytes c.in_ok-put_attribute.ensures.text c.in_ok-push_str-2.ensures.bytes
    (c.in_ok-put_lines.ensures ∙ ap₂ (λ t l. string_bytes c.push_str-2.new.self ++ lines_text t c.args.copy.now c.args.paper l) c.terms.ensures c.lines.ensures)
    (pushed c.push_str-3.result (string_bytes c.put_lines.new.out) (string_bytes c.push_str-3.new.self) (codes "</g>\n") c.push_str-3.ensures.bytes)
