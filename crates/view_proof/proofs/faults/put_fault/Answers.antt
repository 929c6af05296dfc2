use Rattle.std.proofs.Common.{string_bytes}
use Rattle.view_proof.proofs.Texts.{three}
use Rattle.view_proof.proofs.faults.put_fault.Goals as goal

pub returns : goal.returns
returns g c =
    three c.put_way_line.result (string_bytes c.args.out.now) (string_bytes c.put_title.new.out) (string_bytes c.put_shown.new.out) (string_bytes c.put_way_line.new.out) _ _ _ c.in_ok-put_title.ensures c.in_ok-put_shown.ensures c.put_way_line.ensures
