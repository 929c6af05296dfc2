use Rattle.std.proofs.Common.{string_bytes}
use Rattle.view_proof.proofs.Texts.{three}
use Rattle.view_pages.specs.Pages.{head_text}
use Rattle.view_pages.proofs.pages.put_head.Goals as goal

pub returns : goal.returns
unfolding head_text
returns g c =
    three c.put_among.result (string_bytes c.args.out.now) (string_bytes c.put_text_at.new.out) (string_bytes c.push_str.new.self) (string_bytes c.put_among.new.out) _ _ _
    c.in_ok-put_text_at.ensures c.in_ok-push_str.ensures.bytes c.put_among.ensures
