use Rattle.std.proofs.Common.{string_bytes}
use Rattle.view_proof.proofs.Texts.{three}
use Rattle.view_pages.proofs.Texts.{pushed_as}
use Rattle.view_pages.specs.Pages.{column_text}
use Rattle.view_pages.proofs.pages.put_column.Goals as goal

pub returns : goal.returns
unfolding column_text
returns g c =
    three c.push_str-2.result (string_bytes c.args.out.now) (string_bytes c.put_text_at.new.out) (string_bytes c.push_str.new.self) (string_bytes c.push_str-2.new.self) _ _ _
    c.in_ok-put_text_at.ensures c.in_ok-push_str.ensures.bytes
    (pushed_as c.push_str-2.result (string_bytes c.push_str.new.self) (string_bytes c.push_str-2.new.self) _ _ c.push_str-2.ensures.bytes c.text_end.ensures)
