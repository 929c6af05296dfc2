-- The stamps of forks that are not known.
use Rattle.std.proofs.Common.{◌≡◌, ◌∙◌, Bool, true, false, not, if◌then◌else◌, ◌&&◌, List, [], ◌∷◌, ◌++◌, refl, sym, ap, subst, inl, inr, IsPermutation}
use Rattle.std.specs.Prelude.{◌⊎◌}
use Rattle.std.specs.List.{dedup, list_any}
use Rattle.std.specs.List.Sorted.{IsSorted, IsStrictlySortedBy}
use Rattle.desk_ops.specs.declared.fault.CopyFault.{CopyFault}
use Rattle.desk_ops.specs.declared.fault.FaultKind.{FaultKind}
use Rattle.desk_ops.specs.declared.fault.FaultKind.TheVariants.{Forked, Void, Waiting}
use Rattle.desk_ops.specs.declared.op.Stamp.{Stamp}
use Rattle.desk_ops.specs.Lists.{Among}
use Rattle.desk_ops.proofs.Stamps.{by_cases}
use Rattle.feed_edit.specs.declared.stamps.SiteStamp.{SiteStamp}
use Rattle.feed_edit.specs.Forks.{AreFreshForks, fork_at, fresh_fork, fresh_forks, is_fork}
use Rattle.feed_edit.specs.Stamps.{same_stamp, site_cmp, site_stamp_of}
use Rattle.feed_edit.proofs.Sorting.{among_any, any_among, sorted_once, sorted_reported}

among_append : {A : Type 0} (xs ys : List A) (x : A) → Among x (xs ++ ys) → Among x xs ⊎ Among x ys
among_append [] ys x m = inr m
among_append (z ∷ xs) ys x (inl e) = inl (inl e)
among_append (z ∷ xs) ys x (inr m) = either (among_append xs ys x m)
  where
    either : Among x xs ⊎ Among x ys → Among x (z ∷ xs) ⊎ Among x ys
    either (inl h) = inl (inr h)
    either (inr h) = inr h

among_first : {A : Type 0} (xs ys : List A) (x : A) → Among x xs → Among x (xs ++ ys)
among_first [] ys x m = absurd m
among_first (z ∷ xs) ys x (inl e) = inl e
among_first (z ∷ xs) ys x (inr m) = inr (among_first xs ys x m)

among_second : {A : Type 0} (xs ys : List A) (x : A) → Among x ys → Among x (xs ++ ys)
among_second [] ys x m = m
among_second (z ∷ xs) ys x m = inr (among_second xs ys x m)

fresh_at : (known : List SiteStamp) (s : Stamp) (kind : FaultKind) (b : Bool) (stamp : SiteStamp) → list_any (same_stamp (site_stamp_of s)) known ≡ b
    → Among stamp (if is_fork kind && not b then site_stamp_of s ∷ [] else []) → (record { stamp = s; kind = kind } ≡ fork_at stamp) × (list_any (same_stamp stamp) known ≡ false)
fresh_at known s Forked false stamp e (inl h) = (ap fork_at h, ap (λ (t : SiteStamp). list_any (same_stamp t) known) (sym h) ∙ e)
fresh_at known s Forked false stamp e (inr m) = absurd m
fresh_at known s Forked true stamp e m = absurd m
fresh_at known s Void b stamp e m = absurd m
fresh_at known s Waiting b stamp e m = absurd m

among_fresh : (known : List SiteStamp) (faults : List CopyFault) (stamp : SiteStamp) → Among stamp (fresh_forks known faults) → Among (fork_at stamp) faults × (Among stamp known → ⊥)
among_fresh known [] stamp m = absurd m
among_fresh known (fault ∷ faults) stamp m = go (among_fresh known faults stamp) (among_append (fresh_fork known fault) (fresh_forks known faults) stamp m)
  where
    go : (Among stamp (fresh_forks known faults) → Among (fork_at stamp) faults × (Among stamp known → ⊥)) → Among stamp (fresh_fork known fault) ⊎ Among stamp (fresh_forks known faults)
        → Among (fork_at stamp) (fault ∷ faults) × (Among stamp known → ⊥)
    go more (inl h) = let r = fresh_at known fault.stamp fault.kind (list_any (same_stamp (site_stamp_of fault.stamp)) known) stamp refl h in (inl r.0, any_among known stamp r.1)
    go more (inr h) = let r = more h in (inr r.0, r.1)

fresh_known : (known : List SiteStamp) (stamp : SiteStamp) → (Among stamp known → ⊥) → fresh_fork known (fork_at stamp) ≡ stamp ∷ []
fresh_known known stamp out = ap (λ b. if not b then stamp ∷ [] else []) (by_cases (list_any (same_stamp stamp) known) (λ e. absurd (out (among_any known stamp e))) (λ e. e))

fresh_among : (known : List SiteStamp) (faults : List CopyFault) (stamp : SiteStamp) → Among (fork_at stamp) faults → (Among stamp known → ⊥) → Among stamp (fresh_forks known faults)
fresh_among known [] stamp m out = absurd m
fresh_among known (fault ∷ faults) stamp (inl h) out =
    among_first (fresh_fork known fault) (fresh_forks known faults) stamp (subst (λ (l : List SiteStamp). Among stamp l) (sym (ap (fresh_fork known) h ∙ fresh_known known stamp out)) (inl refl))
fresh_among known (fault ∷ faults) stamp (inr m) out = among_second (fresh_fork known fault) (fresh_forks known faults) stamp (fresh_among known faults stamp m out)

pub fresh_sorted : (known : List SiteStamp) (faults : List CopyFault) (stamps sorted once : List SiteStamp) → stamps ≡ fresh_forks known faults → IsPermutation stamps sorted → IsSorted site_cmp sorted
    → once ≡ dedup same_stamp sorted → AreFreshForks known faults once
fresh_sorted known faults stamps sorted once is moved up made = record {
  rise = subst (IsStrictlySortedBy site_cmp) (sym made) (sorted_once sorted up);
  all = λ stamp.
      let kept = sorted_reported stamps sorted stamp moved in (
        λ m. among_fresh known faults stamp (subst (λ (l : List SiteStamp). Among stamp l) is (kept.0 (subst (λ (l : List SiteStamp). Among stamp l) made m))),
        λ h. subst (λ (l : List SiteStamp). Among stamp l) (sym made) (kept.1 (subst (λ (l : List SiteStamp). Among stamp l) (sym is) (fresh_among known faults stamp h.0 h.1))),
      );
}
