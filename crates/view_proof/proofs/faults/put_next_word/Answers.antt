use Rattle.std.proofs.Common.{string_bytes}
use Rattle.view_proof.proofs.Texts.{four}
use Rattle.view_proof.proofs.faults.put_next_word.Goals as goal

pub returns : goal.returns
returns g c =
    four c.put_over.result (string_bytes c.args.out.now) (string_bytes c.push_str.new.self) (string_bytes c.put_word.new.out) (string_bytes c.push_str-2.new.self) (string_bytes c.put_over.new.out) _ _ _ _ c.in_ok-push_str.ensures.bytes c.in_ok-put_word.ensures c.in_ok-push_str-2.ensures.bytes c.put_over.ensures
