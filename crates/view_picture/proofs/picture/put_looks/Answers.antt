use Rattle.std.proofs.Common.{ap, ◌∙◌, ◌++◌, string_bytes}
use Rattle.std.specs.Prelude.{codes}
use Rattle.view_proof.proofs.Texts.{three}
use Rattle.view_picture.proofs.Texts.{pushed}
use Rattle.view_picture.proofs.picture.put_looks.Goals as goal

pub returns : goal.returns
returns g c =
    three c.push_str-3.result (string_bytes c.args.out.now) (string_bytes c.push_str.new.self) (string_bytes c.push_str-2.new.self) (string_bytes c.push_str-3.new.self) _ _ _
    c.in_ok-push_str.ensures.bytes (c.in_ok-push_str-2.ensures.bytes ∙ ap (λ l. string_bytes c.push_str.new.self ++ l) c.looks.ensures)
    (pushed c.push_str-3.result (string_bytes c.push_str-2.new.self) (string_bytes c.push_str-3.new.self) (codes "</style>\n") c.push_str-3.ensures.bytes)
