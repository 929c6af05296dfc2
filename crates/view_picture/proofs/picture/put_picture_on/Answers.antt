use Rattle.std.proofs.Common.{string_bytes}
use Rattle.std.specs.Prelude.{codes}
use Rattle.view_picture.proofs.Texts.{five, pushed}
use Rattle.view_picture.proofs.picture.put_picture_on.Goals as goal

pub returns : goal.returns
returns g c =
    five c.push_str.result (string_bytes c.args.out.now) (string_bytes c.put_page.new.out) (string_bytes c.put_heads.new.out) (string_bytes c.put_galley_frame.new.out) (string_bytes c.put_group.new.out) (string_bytes c.push_str.new.self) _ _ _ _ _
    c.in_ok-put_page.ensures c.in_ok-put_heads.ensures c.in_ok-put_galley_frame.ensures c.in_ok-put_group.ensures (pushed c.push_str.result (string_bytes c.put_group.new.out) (string_bytes c.push_str.new.self) (codes "</svg>\n") c.push_str.ensures.bytes)
