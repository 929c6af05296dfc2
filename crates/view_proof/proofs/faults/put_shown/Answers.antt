use Rattle.std.proofs.Common.{string_bytes}
use Rattle.view_proof.proofs.Texts.{two}
use Rattle.view_proof.proofs.faults.put_shown.Goals as goal

pub returns : goal.returns
returns g c =
    two c.put_set.result (string_bytes c.args.out.now) (string_bytes c.push_str.new.self) (string_bytes c.put_set.new.out) _ _ c.in_ok-push_str.ensures.bytes c.put_set.ensures
