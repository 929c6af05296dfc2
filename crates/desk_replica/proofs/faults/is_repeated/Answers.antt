use Rattle.std.proofs.Common.{◌≡◌, ℕ, suc, ◌-◌, ◌∙◌, take, sym, ap, arith}
use Rattle.desk_ops.specs.Stamp.{same}
use Rattle.desk_replica.specs.Ways.{ends_with}
use Rattle.desk_replica.proofs.Ends.{ends_at}
use Rattle.desk_replica.proofs.faults.is_repeated.Goals as goal

pub returns-then-place-gt0 : goal.returns-then-place-gt0
returns-then-place-gt0 c =
    let ops = c.args.ops.now in
    let before = c.args.place - 1 in
    let on : c.args.place ≡ suc before = omega (arith, c.if-place-gt0.true) in
    c.is_same.ensures ∙ ap (λ s. same s c.args.stamp) c.stamp.ensures
    ∙ sym (ends_at ops before _ c.args.stamp (omega (arith, c.requires, c.if-place-gt0.true)))
    ∙ ap (λ (n : ℕ). ends_with (take n ops) c.args.stamp) (sym on)
