use Rattle.std.proofs.Common.{string_bytes}
use Rattle.std.specs.Prelude.{codes}
use Rattle.view_proof.proofs.Texts.{four, pushed}
use Rattle.view_preview.proofs.located_faults.put_missing_at.Goals as goal

pub returns : goal.returns
returns g c =
    four c.push_str-2.result (string_bytes c.args.out.now) (string_bytes c.put_position.new.out) (string_bytes c.push_str.new.self) (string_bytes c.put_symbol.new.out) (string_bytes c.push_str-2.new.self) _ _ _ _
    c.in_ok-put_position.ensures c.in_ok-push_str.ensures.bytes c.in_ok-put_symbol.ensures (pushed c.push_str-2.result (string_bytes c.put_symbol.new.out) (string_bytes c.push_str-2.new.self) (codes "\n") c.push_str-2.ensures.bytes)
