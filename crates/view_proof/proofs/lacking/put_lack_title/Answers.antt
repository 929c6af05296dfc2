use Rattle.std.proofs.Common.{string_bytes}
use Rattle.view_proof.proofs.Texts.{three}
use Rattle.view_proof.proofs.lacking.put_lack_title.Goals as goal

pub returns : goal.returns
returns g c =
    three c.put_at.result (string_bytes c.args.out.now) (string_bytes c.push_str.new.self) (string_bytes c.put_name.new.out) (string_bytes c.put_at.new.out) _ _ _ c.in_ok-push_str.ensures.bytes c.in_ok-put_name.ensures c.put_at.ensures
