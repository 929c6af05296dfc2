-- Stamps by site and then by counter, each once.
use Rattle.std.proofs.Common.{◌≡◌, ◌∙◌, ℕ, zero, suc, ◌<◌, Bool, true, not, ◌&&◌, List, [], ◌∷◌, length, get_or, map, sym, ap, subst, inl, inr, arith, IsPermutation}
use Rattle.std.specs.Prelude.{◌↔◌, ◌==◌, T}
use Rattle.std.specs.List.{Contains, dedup}
use Rattle.std.specs.List.Sorted.{IsSorted, IsStrictlySortedBy}
use Rattle.std.specs.Ordering.{eq_by_cmp, is_eq, nat_cmp}
use Rattle.std.specs.Cmp.{IsTotalOrder, IsEquivalence, tied_then, unsigned_tied}
use Rattle.std.proofs.lemmas.Bool.Decides.{nat_tests}
use Rattle.std.proofs.lemmas.Bool.{not-true}
use Rattle.std.proofs.lemmas.Cmp.{and_equiv, nat_cmp_total, nat_eq_equiv, on_equiv, on_total, then_total}
use Rattle.std.proofs.lemmas.List.Kept.{Contains-dedup, Contains-from_dedup, IsStrictlySortedBy-dedup}
use Rattle.std.proofs.lemmas.List.Sorted.{Contains-permutation, IsPermutation-sym}
use Rattle.desk_ops.specs.declared.op.Op.{Op}
use Rattle.desk_ops.specs.Lists.{Among}
use Rattle.desk_ops.specs.OpSet.{from_rising, has_op, is_rising}
use Rattle.desk_ops.proofs.Ends.{among_held, held_among}
use Rattle.desk_ops.proofs.Lists.{among-filter, among-filter_from}
use Rattle.desk_ops.proofs.OpSets.{has_op-from_rising, in_order-from_rising}
use Rattle.desk_codec.specs.Runs.{is_among}
use Rattle.desk_walk.proofs.Lists.{among-map}
use Rattle.feed_edit.specs.Stamps.{same_stamp, site_cmp}
use Rattle.feed_edit.specs.declared.stamps.SiteStamp.{SiteStamp}
use Rattle.feed_edit.proofs.Sorting.{sorted_once, sorted_reported}
use Rattle.feed_sites.specs.Alone.{AreAlone, IsAlone, alone, site_stamp}

-- ---- what is among the stamps of operations

among_map_from : {A B : Type 0} (f : A → B) (xs : List A) (x : A) (y : B) → Among x xs → f x ≡ y → Among y (map f xs)
among_map_from f [] x y m e = absurd m
among_map_from f (z ∷ xs) x y (inl h) e = inl (ap f h ∙ e)
among_map_from f (z ∷ xs) x y (inr m) e = inr (among_map_from f xs x y m e)

held_in : (ops : List Op) (op : Op) → T (is_rising ops) → Among op ops → has_op (from_rising ops) op ≡ true
held_in ops op rising m = held_among (from_rising ops) op (subst (λ (l : List Op). Among op l) (sym (in_order-from_rising ops rising)) m)

in_held : (ops : List Op) (op : Op) → T (is_rising ops) → has_op (from_rising ops) op ≡ true → Among op ops
in_held ops op rising h = subst (λ (l : List Op). Among op l) (in_order-from_rising ops rising) (among_held (from_rising ops) op h)

alone_reported : (one other : List Op) (stamp : SiteStamp) → T (is_rising one) → T (is_rising other) → Among stamp (map site_stamp (alone one other)) ↔ IsAlone (from_rising one) (from_rising other) stamp
alone_reported one other stamp first second = (there, back)
  where
    there : Among stamp (map site_stamp (alone one other)) → IsAlone (from_rising one) (from_rising other) stamp
    there m =
        let r = among-map site_stamp (alone one other) stamp m in
        let f = among-filter (λ (op : Op). not (is_among op other)) one r.0 r.1 in
        (r.0, held_in one r.0 first f.0, has_op-from_rising other r.0 second ∙ not-true (is_among r.0 other) f.1, r.2)

    back : IsAlone (from_rising one) (from_rising other) stamp → Among stamp (map site_stamp (alone one other))
    back h =
        among_map_from site_stamp (alone one other) h.0 stamp
        (among-filter_from (λ (op : Op). not (is_among op other)) one h.0 (in_held one h.0 first h.1) (ap not (sym (has_op-from_rising other h.0 second) ∙ h.2))) h.3

pub sorted_alone : (one other : List Op) (stamps sorted once : List SiteStamp) → T (is_rising one) → T (is_rising other) → stamps ≡ map site_stamp (alone one other) → IsPermutation stamps sorted → IsSorted site_cmp sorted
    → once ≡ dedup same_stamp sorted → AreAlone (from_rising one) (from_rising other) once
sorted_alone one other stamps sorted once first second is moved up made = record {
  rise = subst (IsStrictlySortedBy site_cmp) (sym made) (sorted_once sorted up);
  all = λ stamp.
      let kept = sorted_reported stamps sorted stamp moved in
      let reported = alone_reported one other stamp first second in (
        λ m. reported.0 (subst (λ (l : List SiteStamp). Among stamp l) is (kept.0 (subst (λ (l : List SiteStamp). Among stamp l) made m))),
        λ h. subst (λ (l : List SiteStamp). Among stamp l) (sym made) (kept.1 (subst (λ (l : List SiteStamp). Among stamp l) (sym is) (reported.1 h))),
      );
}
