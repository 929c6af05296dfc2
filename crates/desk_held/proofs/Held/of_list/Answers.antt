use Rattle.std.proofs.Common.{All, IfSome, ◌≡◌, sym, ap, subst, ◌∙◌}
use Rattle.std.proofs.lemmas.List.Sorted.{All-permutation}
use Rattle.desk_ops.specs.Op.{IsLawful}
use Rattle.desk_ops.specs.OpSet.{OpSet, no_ops, with_all}
use Rattle.desk_held.proofs.Joins.{with_all-permutation}
use Rattle.desk_held.proofs.Held.of_list.Goals as goal

pub of_rising-requires-2 : goal.of_rising-requires-2
of_rising-requires-2 g c =
    subst (All IsLawful) (sym c.as_slice.ensures.value)
    (All-permutation IsLawful c.in-Ok.list.items c.sort_unstable.new.self.items c.sort_unstable.ensures.permutation
    (subst (All IsLawful) (sym c.in-Ok.ensures.items) c.requires))

pub returns : goal.returns
returns g c =
    subst (λ (k : OpSet). IfSome c.of_rising-2.result (λ h. h.ops ≡ k))
    (ap (with_all no_ops) c.as_slice.ensures.value
    ∙ sym (with_all-permutation no_ops c.in-Ok.list.items c.sort_unstable.new.self.items c.sort_unstable.ensures.permutation)
    ∙ ap (with_all no_ops) c.in-Ok.ensures.items)
    c.of_rising-2.ensures.ops
