use Rattle.std.proofs.Common.{ap, ◌∙◌, ◌++◌, string_bytes}
use Rattle.std.specs.Fmt.{decimal}
use Rattle.view_pages.proofs.Texts.{pushed_as, six}
use Rattle.view_pages.specs.Pages.{linked_line}
use Rattle.view_pages.proofs.pages.put_linked_line.Goals as goal

pub returns : goal.returns
unfolding linked_line
returns g c =
    six c.push_str-3.result (string_bytes c.args.out.now) (string_bytes c.push_str.new.self) (string_bytes c.put_number.new.out) (string_bytes c.push_str-2.new.self) (string_bytes c.put_line_at.new.out) (string_bytes c.put_line_marks.new.out) (string_bytes c.push_str-3.new.self) _ _ _ _ _ _
    (c.in_ok-push_str.ensures.bytes ∙ ap (λ t. string_bytes c.args.out.now ++ t) c.line_begin.ensures)
    (c.in_ok-put_number.ensures.text ∙ ap (λ n. string_bytes c.push_str.new.self ++ decimal n) c.number.ensures)
    c.in_ok-push_str-2.ensures.bytes c.in_ok-put_line_at.ensures c.in_ok-put_line_marks.ensures
    (pushed_as c.push_str-3.result (string_bytes c.put_line_marks.new.out) (string_bytes c.push_str-3.new.self) _ _ c.push_str-3.ensures.bytes c.group_end.ensures)
