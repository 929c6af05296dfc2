use Rattle.std.proofs.Common.{string_bytes}
use Rattle.view_picture.proofs.Texts.{five}
use Rattle.view_pages.proofs.Texts.{pushed_as}
use Rattle.view_pages.specs.Pages.{lines_text}
use Rattle.view_pages.proofs.pages.put_lines.Goals as goal

pub returns : goal.returns
unfolding lines_text
returns g c =
    five c.push_str-3.result (string_bytes c.args.out.now) (string_bytes c.push_str.new.self) (string_bytes c.put_attribute.new.out) (string_bytes c.push_str-2.new.self) (string_bytes c.put_lines_below.new.out) (string_bytes c.push_str-3.new.self) _ _ _ _ _
    c.in_ok-push_str.ensures.bytes c.in_ok-put_attribute.ensures.text c.in_ok-push_str-2.ensures.bytes c.in_ok-put_lines_below.ensures
    (pushed_as c.push_str-3.result (string_bytes c.put_lines_below.new.out) (string_bytes c.push_str-3.new.self) _ _ c.push_str-3.ensures.bytes c.group_end.ensures)
