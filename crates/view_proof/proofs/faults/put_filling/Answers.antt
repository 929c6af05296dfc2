use Rattle.std.proofs.Common.{◌≡◌, ℕ, ◌++◌, subst, string_bytes}
use Rattle.std.specs.Prelude.{OnOk, codes}
use Rattle.std.specs.Fmt.{decimal}
use Rattle.view_proof.proofs.Texts.{two}
use Rattle.view_proof.proofs.faults.put_filling.Goals as goal

pub returns : goal.returns
returns g c =
    two c.put_bound.result (string_bytes c.args.out.now) (string_bytes c.put_limit.new.out) (string_bytes c.put_bound.new.out) _ _ c.in_ok-put_limit.ensures
    (subst (λ (n : ℕ). OnOk c.put_bound.result (string_bytes c.put_bound.new.out ≡ string_bytes c.put_limit.new.out ++ (decimal n ++ codes ")"))) c.greatest.ensures c.put_bound.ensures)
