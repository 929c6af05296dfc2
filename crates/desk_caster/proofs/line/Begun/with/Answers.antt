use Rattle.std.proofs.Common.{reverse, sym, subst, ap, length, arith, ◌+◌, ◌<◌, ◌^◌}
use Rattle.desk_caster.specs.Bounds.{IsTotal}
use Rattle.desk_caster.specs.Caster.{Begun}
use Rattle.desk_caster.proofs.Totals.{total_grows, sum_fits}
use Rattle.desk_caster.proofs.line.Begun.with.Goals as goal

pub sum-wider-requires : goal.sum-wider-requires
sum-wider-requires g c =
    let same = ap (λ (b : Begun). length b.matrices) c.self.view_is in
    let room : length (reverse c.self.inside.met.items) + 1 < 2 ^ 32 = omega (arith, same, c.requires.room) in
    sum_fits c.args.matrix.width c.self.inside.total (length (reverse c.self.inside.met.items)) c.requires.width c.self.invariant.within room

pub invariant_of-result : goal.invariant_of-result
invariant_of-result g c =
    subst (λ items. IsTotal c.sum-wider.result (reverse items)) (sym c.in_ok-push.ensures.items)
    (total_grows c.self.inside.met.items c.args.matrix c.self.inside.total c.sum-wider.result c.self.invariant c.requires.width c.sum-wider.ensures)
