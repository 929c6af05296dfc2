use Rattle.std.proofs.Common.{ap, ◌∙◌, ◌+◌, ◌++◌, string_bytes}
use Rattle.view_picture.specs.Heads.{head_y}
use Rattle.view_picture.specs.Picture.{begin_text, why_text}
use Rattle.std.specs.Prelude.{codes}
use Rattle.view_proof.proofs.Texts.{four}
use Rattle.view_picture.proofs.Texts.{pushed}
use Rattle.view_picture.proofs.picture.put_none.Goals as goal

pub returns : goal.returns
returns g c =
    four c.push_str.result (string_bytes c.args.out.now) (string_bytes c.put_begin.new.out) (string_bytes c.put_copy_faults.new.out) (string_bytes c.put_why.new.out) (string_bytes c.push_str.new.self) _ _ _ _
    (c.in_ok-put_begin.ensures ∙ ap (λ h. string_bytes c.args.out.now ++ begin_text 50000 h) (c.head_y-height.ensures.value ∙ ap (λ n. head_y (n + 1)) c.requires.value))
    c.in_ok-put_copy_faults.ensures
    (c.in_ok-put_why.ensures ∙ ap (λ y. string_bytes c.put_copy_faults.new.out ++ why_text y c.args.why.now) (c.head_y-y.ensures.value ∙ ap head_y c.requires.value))
    (pushed c.push_str.result (string_bytes c.put_why.new.out) (string_bytes c.push_str.new.self) (codes "</svg>\n") c.push_str.ensures.bytes)
