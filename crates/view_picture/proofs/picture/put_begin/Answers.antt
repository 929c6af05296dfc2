use Rattle.std.proofs.Common.{string_bytes}
use Rattle.std.specs.Prelude.{codes}
use Rattle.view_proof.proofs.Texts.{four}
use Rattle.view_picture.proofs.Texts.{pushed}
use Rattle.view_picture.proofs.picture.put_begin.Goals as goal

pub returns : goal.returns
returns g c =
    four c.push_str.result (string_bytes c.args.out.now) (string_bytes c.put_size.new.out) (string_bytes c.put_points.new.out) (string_bytes c.put_looks.new.out) (string_bytes c.push_str.new.self) _ _ _ _
    c.in_ok-put_size.ensures c.in_ok-put_points.ensures c.in_ok-put_looks.ensures (pushed c.push_str.result (string_bytes c.put_looks.new.out) (string_bytes c.push_str.new.self) (codes "<rect width=\"100%\" height=\"100%\" fill=\"#fbf9f2\"/>\n") c.push_str.ensures.bytes)
