use Rattle.std.proofs.Common.{string_bytes}
use Rattle.view_proof.proofs.Texts.{three}
use Rattle.view_pages.specs.Pages.{sheet_text}
use Rattle.view_pages.proofs.pages.put_sheet.Goals as goal

pub returns : goal.returns
unfolding sheet_text
returns g c =
    three c.put_id.result (string_bytes c.args.out.now) (string_bytes c.put_size.new.out) (string_bytes c.put_extent.new.out) (string_bytes c.put_id.new.out) _ _ _
    c.in_ok-put_size.ensures c.in_ok-put_extent.ensures c.put_id.ensures
