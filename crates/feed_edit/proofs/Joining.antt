-- Feeds joined one after the other.
use Rattle.std.proofs.Common.{◌≡◌, ℕ, ◌+◌, ◌<◌, ◌&&◌, Bool, true, false, List, [], ◌∷◌, ◌++◌, length, map, take, drop, get_or, inr, refl, sym, ap, ap₂, subst, ◌∙◌, append_assoc, arith, take-append-drop, add-one, drop-cons}
use Rattle.std.specs.Prelude.{◌≢◌}
use Rattle.std.proofs.lemmas.List.{append-nil, length-map, length-take-le, map-append, map_more}
use Rattle.desk_ops.specs.declared.op.Op.{Op}
use Rattle.desk_ops.specs.OpSet.{OpSet, size, with_all}
use Rattle.feed_files.specs.Files.{Names, Shelf}
use Rattle.desk_held.specs.declared.AddRefusal.{AddRefusal}
use Rattle.desk_held.specs.declared.AddRefusal.TheVariants as adds
use Rattle.desk_held.specs.Joining.{IsStopped}
use Rattle.desk_replica.specs.State.{IsCounted}
use Rattle.desk_held.specs.declared.join.Stopped.{Stopped}
use Rattle.feed_readings.specs.Before.{IsJoin}
use Rattle.feed_edit.specs.Fault.{of_adding}
use Rattle.feed_edit.specs.Forks.{AreFound, AreNewlyForked, IsAllowed, IsKnown}
use Rattle.feed_edit.specs.declared.forks.Known.{Known}
use Rattle.feed_edit.specs.declared.merging.Taken.{Taken}
use Rattle.feed_edit.specs.declared.stamps.SiteStamp.{SiteStamp}
use Rattle.feed_edit.specs.declared.fault.FeedTrouble.{FeedTrouble}
use Rattle.feed_edit.specs.declared.fault.FeedTrouble.TheVariants as troubles
use Rattle.feed_edit.specs.Merging.{AreFeeds, ForksAt, IsFeedOf, IsGained, IsJoined, IsNext, IsTaken, Joins, Refuses, StopsAt, are_clean, is_clean, line_of, lines_of, with_lists}
use Rattle.feed_edit.proofs.Forking.{newly_forked}

feeds_more : (kept : Names) (names : List (List ℕ)) (lists : List (List Op)) (name : List ℕ) (ops : List Op) → AreFeeds kept names lists → IsFeedOf (kept name) ops → AreFeeds kept (names ++ name ∷ []) (lists ++ ops ∷ [])
feeds_more kept [] [] name ops all one = (one, tt)
feeds_more kept [] (l ∷ lists) name ops all one = absurd all
feeds_more kept (n ∷ names) [] name ops all one = absurd all
feeds_more kept (n ∷ names) (l ∷ lists) name ops all one = (all.0, feeds_more kept names lists name ops all.1 one)

lists_more : (set : OpSet) (lists : List (List Op)) (ops : List Op) → with_lists set (lists ++ ops ∷ []) ≡ with_all (with_lists set lists) ops
lists_more set [] ops = refl
lists_more set (l ∷ lists) ops = lists_more (with_all set l) lists ops

lines_more : (kept : Names) (set : OpSet) (names : List (List ℕ)) (lists : List (List Op)) (name : List ℕ) (ops : List Op) → AreFeeds kept names lists
    → lines_of set (names ++ name ∷ []) (lists ++ ops ∷ []) ≡ lines_of set names lists ++ line_of name (with_lists set lists) ops
lines_more kept set [] [] name ops all = append-nil (line_of name set ops)
lines_more kept set [] (l ∷ lists) name ops all = absurd all
lines_more kept set (n ∷ names) [] name ops all = absurd all
lines_more kept set (n ∷ names) (l ∷ lists) name ops all =
    ap (λ more. line_of n set l ++ more) (lines_more kept (with_all set l) names lists name ops all.1)
    ∙ sym (append_assoc (line_of n set l) (lines_of (with_all set l) names lists) (line_of name (with_lists (with_all set l) lists) ops))

and_true : (b : Bool) → b ≡ (b && true)
and_true true = refl
and_true false = refl

and_group : (a b c : Bool) → (a && (b && c)) ≡ ((a && b) && c)
and_group true b c = refl
and_group false b c = refl

clean_more : (set : OpSet) (lists : List (List Op)) (ops : List Op) → are_clean set (lists ++ ops ∷ []) ≡ (are_clean set lists && is_clean (with_lists set lists) ops)
clean_more set [] ops = sym (and_true (is_clean set ops))
clean_more set (l ∷ lists) ops =
    ap (λ (b : Bool). is_clean set l && b) (clean_more (with_all set l) lists ops) ∙ and_group (is_clean set l) (are_clean (with_all set l) lists) (is_clean (with_lists (with_all set l) lists) ops)

pub joined_more : (kept : Names) (names : List (List ℕ)) (name : List ℕ) (old mid after : OpSet) (before reported : List ℕ) (all_clean clean : Bool) → IsJoined kept names old mid before all_clean → Joins kept name mid after before reported clean
    → IsJoined kept (names ++ name ∷ []) old after reported (all_clean && clean)
joined_more kept names name old mid after before reported all_clean clean (lists, all, is, lines, cleans) (ops, one, more, line, clear) = (
  lists ++ ops ∷ [],
  feeds_more kept names lists name ops all one,
  more ∙ ap (λ s. with_all s ops) is ∙ sym (lists_more old lists ops),
  line ∙ ap₂ (λ l s. l ++ line_of name s ops) lines is ∙ sym (lines_more kept old names lists name ops all),
  ap₂ (λ (a b : Bool). a && b) cleans (clear ∙ ap (λ (s : OpSet). is_clean s ops) is) ∙ sym (clean_more old lists ops),
)

-- its lines are written, and no stamp is forked that is not known
pub written : {A : Type 0} (known : Known A) (kept : Names) (name : List ℕ) (old after : OpSet) (taken : Taken A) (first reported lines : List ℕ) (clean : Bool) (stamps : List SiteStamp) → IsTaken kept name old after taken
    → (IsJoin old taken.ops.items taken.before after → IsCounted old after taken.ops.items taken.count → lines ≡ line_of name old taken.ops.items) → (IsJoin old taken.ops.items taken.before after → clean ≡ is_clean old taken.ops.items) → reported ≡ first ++ lines
    → ((list : List Op) → after ≡ with_all old list → taken.count.new + size old ≡ size after → AreFound known old after stamps) → stamps ≡ [] → Joins kept name old after first reported clean × AreFound known old after []
written known kept name old after taken first reported lines clean stamps t lined closed is found none = (
  (taken.ops.items, t.feed, t.joined.1, is ∙ ap (λ (l : List ℕ). first ++ l) (lined t.joined t.counted), closed t.joined),
  subst (AreFound known old after) none (found taken.ops.items t.joined.1 t.counted.news),
)

-- why the set does not take all of a feed
pub refused : (set after : OpSet) (name : List ℕ) (before last : Shelf) (ops : List Op) (stop : Stopped) (why : AddRefusal) → stop.why ≡ why → IsFeedOf (before.kept name) ops
    → last.failures ≡ before.failures → IsStopped set after ops stop → Refuses set name before last (of_adding why)
refused set after name before last ops stop adds.Full is feed counted stopped = (ops, feed, counted, (after, stop, stopped, stopped.full.0 is))
refused set after name before last ops stop adds.NoMemory is feed counted stopped = (feed.0, (feed.1, counted), inr (ops, feed.2))

-- memory ran out once a feed was read
pub no_memory : (set : OpSet) (name : List ℕ) (before last : Shelf) (ops : List Op) → IsFeedOf (before.kept name) ops → last.failures ≡ before.failures → Refuses set name before last troubles.NoMemory
no_memory set name before last ops feed counted = (feed.0, (feed.1, counted), inr (ops, feed.2))

-- ---- names as they are given

module _ {X : Type 0} (f : X → List ℕ) (xs : List X) (at : ℕ) (d : X) (lt : at < length xs) where
  pub more_joined : (before mid : Names) (old set after : OpSet) (reported reported_after : List ℕ) (all_clean clean both : Bool) → mid ≡ before → IsJoined before (map f (take at xs)) old set reported all_clean
      → Joins mid (f (get_or xs at d)) set after reported reported_after clean → both ≡ (all_clean && clean) → IsJoined before (map f (take (at + 1) xs)) old after reported_after both
  more_joined before mid old set after reported reported_after all_clean clean both same joined one is =
      subst (λ ns. IsJoined before ns old after reported_after both) (sym (map_more f xs at d lt))
      (subst (λ (b : Bool). IsJoined before (map f (take at xs) ++ f (get_or xs at d) ∷ []) old after reported_after b) (sym is)
      (joined_more before (map f (take at xs)) (f (get_or xs at d)) old set after reported reported_after all_clean clean joined (subst (λ (k : Names). Joins k (f (get_or xs at d)) set after reported reported_after clean) same one)))

  -- the place at in what f makes of all
  pub place : map f xs ≡ map f (take at xs) ++ f (get_or xs at d) ∷ map f (drop (at + 1) xs)
  place =
      let cut : drop at xs ≡ get_or xs at d ∷ drop (at + 1) xs = rw (add-one, drop-cons xs at d) refl in
      ap (map f) (sym (take-append-drop at xs)) ∙ map-append f (take at xs) (drop at xs) ∙ ap (λ l. map f (take at xs) ++ map f l) cut

  next_at : (forks : Bool) (old set : OpSet) (before : Shelf) (reported : List ℕ) (clean : Bool) → IsJoined before.kept (map f (take at xs)) old set reported clean → IsAllowed forks old set
      → IsNext (map f xs) forks old before at set (f (get_or xs at d))
  next_at forks old set before reported clean joined allowed =
      (map f (take at xs), map f (drop (at + 1) xs), place, length-map (take at xs) f ∙ length-take-le at xs (omega (arith, lt)), reported, clean, joined, allowed)

  pub stops_at : (forks : Bool) (old set : OpSet) (before mid after : Shelf) (reported : List ℕ) (clean : Bool) (why : FeedTrouble) → IsJoined before.kept (map f (take at xs)) old set reported clean → IsAllowed forks old set → mid ≡ before
      → Refuses set (f (get_or xs at d)) mid after why → StopsAt (map f xs) forks old before after at why
  stops_at forks old set before mid after reported clean why joined allowed same refuses =
      (set, f (get_or xs at d), next_at forks old set before reported clean joined allowed, subst (λ (s : Shelf). Refuses set (f (get_or xs at d)) s after why) same refuses)

  pub forks_at : {A : Type 0} (known : Known A) (old set new : OpSet) (before mid after : Shelf) (reported : List ℕ) (all_clean : Bool) (stamps : List SiteStamp) → IsJoined before.kept (map f (take at xs)) old set reported all_clean
      → IsKnown old known → IsAllowed known.forks old set → mid ≡ before → after ≡ before → IsGained mid.kept (f (get_or xs at d)) set new → AreFound known set new stamps → stamps ≢ []
      → ForksAt (map f xs) known.forks old before after at stamps
  forks_at known old set new before mid after reported all_clean stamps joined is allowed same same_after (ops, feed, gained) found some =
      let newly = newly_forked known old set new stamps is found some in (
        newly.0,
        same_after,
        set,
        f (get_or xs at d),
        next_at known.forks old set before reported all_clean joined allowed,
        ops,
        subst (λ (s : Shelf). IsFeedOf (s.kept (f (get_or xs at d))) ops) same feed,
        subst (λ (s : OpSet). AreNewlyForked old s stamps) gained newly.1,
        some,
      )
