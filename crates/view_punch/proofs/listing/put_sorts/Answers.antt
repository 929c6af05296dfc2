use Rattle.std.proofs.Common.{◌++◌, ◌∙◌, ap, string_bytes}
use Rattle.view_proof.proofs.Texts.{four}
use Rattle.view_punch.proofs.listing.put_sorts.Goals as goal

pub returns : goal.returns
returns g c =
    let reported = string_bytes c.put_missing_lines.new.out in
    four c.put_sort_lines.result (string_bytes c.args.out.now) (string_bytes c.put_head.new.out) reported (string_bytes c.push_str.new.self) (string_bytes c.put_sort_lines.new.out) _ _ _ _
    c.in_ok-put_head.ensures c.in_ok-put_missing_lines.ensures (c.in_ok-push_str.ensures.bytes ∙ ap (λ t. reported ++ t) c.columns.ensures) c.put_sort_lines.ensures
