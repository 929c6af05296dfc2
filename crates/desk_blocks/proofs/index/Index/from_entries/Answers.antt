use Rattle.std.proofs.Common.{◌∙◌, sym, subst, List, rules}
use Rattle.std.specs.List.Sorted.{IsSortedByKey}
use Rattle.std.proofs.lemmas.List.Sorted.{answers_always}
use Rattle.desk_ops.specs.Stamp.{stamp_cmp}
use Rattle.desk_seq.specs.Entries.{stamps_of}
use Rattle.desk_blocks.specs.Home.{Home}
use Rattle.desk_blocks.specs.Rank.{homes_of, IsRising, Knows}
use Rattle.desk_blocks.proofs.Sorts.{knows-moved, rising-sorted, sorted-from}
use Rattle.desk_blocks.proofs.index.Index.from_entries.Goals as goal

pub invariant_of-result : goal.invariant_of-result
invariant_of-result g c =
    let hs = c.in_ok-homes.homes.items in
    let gs = c.sort_unstable_by_key.new.self.items in
    let up : IsSortedByKey (λ (h : Home). h.stamp) stamp_cmp gs = sorted-from gs (c.sort_unstable_by_key.ensures.sorted (λ (h : Home). h.stamp) (answers_always _ _ _ (λ f a r q k. search rules))) in
    let rises : IsRising (homes_of gs) = rising-sorted hs gs c.args.list.now c.requires c.in_ok-homes.ensures c.sort_unstable_by_key.ensures.permutation up in
    subst (λ (l : List Home). IsRising (homes_of l)) (sym (c.in_ok-from_slice.ensures ∙ c.deref.ensures.value)) rises

pub returns : goal.returns
returns g c =
    let hs = c.in_ok-homes.homes.items in
    let gs = c.sort_unstable_by_key.new.self.items in
    subst (λ (l : List Home). Knows (homes_of l) (stamps_of c.args.list.now)) (sym (c.in_ok-from_slice.ensures ∙ c.deref.ensures.value)) (knows-moved hs gs c.args.list.now c.in_ok-homes.ensures c.sort_unstable_by_key.ensures.permutation)
