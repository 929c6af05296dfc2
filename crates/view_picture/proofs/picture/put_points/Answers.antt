use Rattle.std.proofs.Common.{string_bytes}
use Rattle.std.specs.Prelude.{codes}
use Rattle.view_proof.proofs.Texts.{four}
use Rattle.view_picture.proofs.Texts.{pushed}
use Rattle.view_picture.proofs.picture.put_points.Goals as goal

pub returns : goal.returns
returns g c =
    four c.push_str-2.result (string_bytes c.args.out.now) (string_bytes c.put_hundredths.new.out) (string_bytes c.push_str.new.self) (string_bytes c.put_hundredths-2.new.out) (string_bytes c.push_str-2.new.self) _ _ _ _
    c.in_ok-put_hundredths.ensures.text c.in_ok-push_str.ensures.bytes c.in_ok-put_hundredths-2.ensures.text (pushed c.push_str-2.result (string_bytes c.put_hundredths-2.new.out) (string_bytes c.push_str-2.new.self) (codes "pt\">\n") c.push_str-2.ensures.bytes)
