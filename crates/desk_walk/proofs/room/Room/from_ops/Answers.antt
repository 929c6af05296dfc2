use Rattle.std.proofs.Common.{◌∙◌, sym, ap, subst, List}
use Rattle.std.specs.List.Sorted.{IsPermutation}
use Rattle.desk_ops.specs.declared.op.Op.{Op}
use Rattle.desk_walk.specs.Turn.{IsInTurn, IsKept, set_of}
use Rattle.desk_walk.proofs.Sets.{set-permuted, kept-permuted}
use Rattle.desk_walk.proofs.room.Room.from_ops.Goals as goal

pub invariant_of-result : goal.invariant_of-result
invariant_of-result g c =
    let xs = c.args.ops.now in
    let ys = c.sort_unstable_by.new.self.items in
    let moved : IsPermutation xs ys = subst (λ (zs : List Op). IsPermutation zs ys) c.in_ok-list.ensures c.sort_unstable_by.ensures.permutation in
    let turn : IsInTurn ys = subst IsInTurn c.deref.ensures.value (c.is_in_turn.ensures c.if-is_in_turn.true) in
    subst IsKept (sym (c.in_ok-ops.ensures ∙ c.deref-then-is_in_turn.ensures.value)) (kept-permuted xs ys moved turn c.requires.lawful c.requires.targets)

pub returns-then-is_in_turn : goal.returns-then-is_in_turn
returns-then-is_in_turn g c =
    let xs = c.args.ops.now in
    let ys = c.sort_unstable_by.new.self.items in
    let moved : IsPermutation xs ys = subst (λ (zs : List Op). IsPermutation zs ys) c.in_ok-list.ensures c.sort_unstable_by.ensures.permutation in
    ap set_of (c.in_ok-ops.ensures ∙ c.deref-then-is_in_turn.ensures.value) ∙ set-permuted xs ys moved
