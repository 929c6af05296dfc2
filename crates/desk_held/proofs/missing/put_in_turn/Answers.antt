use Rattle.std.proofs.Common.{◌∙◌, refl, sym, ap, subst, arith, List}
use Rattle.std.specs.Prelude.{T, All}
use Rattle.std.proofs.lemmas.List.Filters.{dedup_is}
use Rattle.std.proofs.lemmas.List.Kept.{IsStrictlySortedBy-dedup}
use Rattle.desk_ops.specs.declared.op.Op.{Op}
use Rattle.desk_ops.specs.Op.{IsLawful}
use Rattle.desk_ops.specs.OpSet.{is_rising, with_all, no_ops}
use Rattle.desk_ops.specs.OrderLaws.{op_total, op_tie}
use Rattle.desk_ops.proofs.OpSets.{none-lawful}
use Rattle.desk_held.specs.Passing.{IsInTurn}
use Rattle.desk_held.proofs.Joins.{with_all-permutation}
use Rattle.desk_held.proofs.Lacking.{dedup-whole, ordered-strictly, rising-from_ordered, listed-lawful}
use Rattle.desk_held.proofs.missing.put_in_turn.Goals as goal

lawful : (ops sorted : List Op) → IsInTurn ops sorted → All IsLawful ops → All IsLawful sorted
lawful ops sorted t all = listed-lawful no_ops no_ops sorted ops none-lawful all (t.whole no_ops)

pub returns-then-is_rising-clause-turn : goal.returns-then-is_rising-clause-turn
returns-then-is_rising-clause-turn g c = record {
  whole = λ h. refl;
  rising = subst (λ (l : List Op). T (is_rising l)) c.deref.ensures.value (c.is_rising.ensures c.if-is_rising.true);
  few = omega arith;
}

pub returns-then-is_rising-2-clause-turn : goal.returns-then-is_rising-2-clause-turn
returns-then-is_rising-2-clause-turn g c = record {
  whole = λ h. sym (with_all-permutation h c.args.ops.now.items c.reverse.new.self.items c.reverse.ensures.permutation);
  rising = subst (λ (l : List Op). T (is_rising l)) c.deref-2.ensures.value (c.is_rising-2.ensures c.if-is_rising-2.true);
  few = omega (arith, c.reverse.ensures.len);
}

pub returns-clause-turn : goal.returns-clause-turn
returns-clause-turn g c =
    let sorted = c.sort_unstable.new.self.items in
    let is = dedup_is _ sorted c.dedup.new.self.items c.dedup.ensures.filtered in
    record {
      whole = λ h. ap (with_all h) is ∙ dedup-whole _ op_tie h sorted
          ∙ sym (with_all-permutation h c.reverse.new.self.items sorted c.sort_unstable.ensures.permutation)
          ∙ sym (with_all-permutation h c.args.ops.now.items c.reverse.new.self.items c.reverse.ensures.permutation);
      rising = subst (λ (l : List Op). T (is_rising l)) (sym is) (rising-from_ordered _ (ordered-strictly _ (IsStrictlySortedBy-dedup op_total op_tie sorted c.sort_unstable.ensures.sorted)));
      few = omega (arith, c.dedup.ensures.bound, c.sort_unstable.ensures.len, c.reverse.ensures.len);
    }

pub returns-then-is_rising-clause-lawful : goal.returns-then-is_rising-clause-lawful
returns-then-is_rising-clause-lawful g c all = all

pub returns-then-is_rising-2-clause-lawful : goal.returns-then-is_rising-2-clause-lawful
returns-then-is_rising-2-clause-lawful g c = lawful c.args.ops.now.items c.reverse.new.self.items (returns-then-is_rising-2-clause-turn g c)

pub returns-clause-lawful : goal.returns-clause-lawful
returns-clause-lawful g c = lawful c.args.ops.now.items c.dedup.new.self.items (returns-clause-turn g c)
