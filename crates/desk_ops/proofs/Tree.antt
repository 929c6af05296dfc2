-- The walk by children, and all that it reaches.
use Rattle.std.proofs.Common.{◌≡◌, Bool, true, false, cond, List, [], ◌∷◌, ◌++◌, reverse, refl, sym, ap, ◌∙◌, subst, inl, inr, append-nil}
use Rattle.std.specs.List.{filter, flat_map}
use Rattle.std.proofs.lemmas.Bool.{true≢false}
use Rattle.std.proofs.lemmas.List.Concat.{flat_map-append}
use Rattle.desk_ops.specs.declared.op.Stamp.{Stamp}
use Rattle.desk_ops.specs.declared.op.Op.{Op}
use Rattle.desk_ops.specs.Op.{Insertion, IsLawful}
use Rattle.desk_ops.specs.Stamp.{same, before, head}
use Rattle.desk_ops.specs.OpSet.{OpSet, in_order}
use Rattle.desk_ops.specs.Walk.{walk_from, walk}
use Rattle.desk_ops.specs.Scan.{IsAscending}
use Rattle.desk_ops.specs.Held.{way_end, is_live, live_inserts, clear_inserts}
use Rattle.desk_ops.specs.Lists.{Among}
use Rattle.desk_ops.specs.Kids.{IsWalkOfKids}
use Rattle.desk_ops.specs.Live.{IsFalling}
use Rattle.desk_ops.specs.PathOrder.{path_in, path_cmp, InPathOrder}
use Rattle.desk_ops.specs.Laws.{AreApart}
use Rattle.std.specs.declared.cmp.Ordering.TheVariants.{Less}
use Rattle.desk_ops.proofs.Lists.{Each, Each-append, Each-weaker, each-among, each-from_among, each-filter, among-filter, among-filter_from}
use Rattle.desk_ops.proofs.Stamps.{same-true, same-refl, same-from, by_cases, before-trans, before-apart_left}
use Rattle.desk_ops.proofs.Scans.{Absent, walk-each, walk-hit, walk-miss, first-apart}
use Rattle.desk_ops.proofs.Paths.{walk-in_order, way-miss, way-absent, way-first, way-grown, own-way, reverse-first, Each-reverse}
use Rattle.desk_ops.proofs.Kept.{descends, step, among-reverse, among-reversed, not_less_itself}
use Rattle.desk_ops.proofs.Means.{clear_ascending, clear_grows, live_ascending, live_grows, live-parts, ascending_filter}

among-append_left : {A : Type 0} (xs ys : List A) (x : A) → Among x xs → Among x (xs ++ ys)
among-append_left [] ys x m = absurd m
among-append_left (z ∷ xs) ys x (inl e) = inl e
among-append_left (z ∷ xs) ys x (inr m) = inr (among-append_left xs ys x m)

among-append_right : {A : Type 0} (xs ys : List A) (x : A) → Among x ys → Among x (xs ++ ys)
among-append_right [] ys x m = m
among-append_right (z ∷ xs) ys x m = inr (among-append_right xs ys x m)

-- the walk reaches each insert whose way ends where it starts
pub among-walk : (xs : List Insertion) → IsAscending xs → (s : Stamp) → Absent s xs → (y : Insertion) → Among y xs → way_end (reverse xs) y.stamp ≡ s → Among y (walk_from xs s)
unfolding walk_from way_end
among-walk [] up s a y m w = absurd m
among-walk (x ∷ xs) up s a y (inl e) w =
    rw (walk-hit x xs s (same-from x.parent s (sym (way-grown x xs x.stamp (own-way x xs (first-apart x xs up))) ∙ ap (λ (z : Insertion). way_end (reverse (x ∷ xs)) z.stamp) e ∙ w)))
    (among-append_right (walk_from xs s) (x ∷ walk_from xs x.stamp) y (inl e))
among-walk (x ∷ xs) up s a y (inr m) w =
    by_cases (same x.stamp (way_end (reverse xs) y.stamp))
    (λ h. rw (walk-hit x xs s (same-from x.parent s (sym (way-grown x xs y.stamp (sym (same-true x.stamp (way_end (reverse xs) y.stamp) h))) ∙ w)))
    (among-append_right (walk_from xs s) (x ∷ walk_from xs x.stamp) y (inr (among-walk xs up.1 x.stamp (first-apart x xs up) y m (sym (same-true x.stamp (way_end (reverse xs) y.stamp) h))))))
    (λ h. front (among-walk xs up.1 s a.1 y m (sym (way-miss x [] (way_end (reverse xs) y.stamp) h) ∙ sym (way-first x xs y.stamp) ∙ w)))
  where
    front : Among y (walk_from xs s) → Among y (walk_from (x ∷ xs) s)
    front n = by_cases (same x.parent s)
        (λ h. rw (walk-hit x xs s h) (among-append_left (walk_from xs s) (x ∷ walk_from xs x.stamp) y n))
        (λ h. rw (walk-miss x xs s h) n)

-- ---- by children

abbrev on : Stamp → Insertion → Bool
on s x = same x.parent s

abbrev below : List Insertion → Insertion → List Insertion
below xs k = k ∷ walk_from xs k.stamp

flat_map-alike : (f g : Insertion → List Insertion) (ks : List Insertion) → Each (λ k. f k ≡ g k) ks → flat_map f ks ≡ flat_map g ks
flat_map-alike f g [] h = refl
flat_map-alike f g (k ∷ ks) h = λ i. h.0 i ++ flat_map-alike f g ks h.1 i

pub filter-hit : {A : Type 0} (p : A → Bool) (x : A) (xs : List A) → p x ≡ true → filter p (x ∷ xs) ≡ x ∷ filter p xs
filter-hit p x xs h = ap (λ b. cond b (x ∷ filter p xs) (filter p xs)) h

pub filter-miss : {A : Type 0} (p : A → Bool) (x : A) (xs : List A) → p x ≡ false → filter p (x ∷ xs) ≡ filter p xs
filter-miss p x xs h = ap (λ b. cond b (x ∷ filter p xs) (filter p xs)) h

-- what is older hangs on nothing younger
below-first : (x : Insertion) (xs : List Insertion) → before x.parent x.stamp ≡ true → (k : Insertion) → before x.stamp k.stamp ≡ true → below (x ∷ xs) k ≡ below xs k
below-first x xs g k h = ap (λ l. k ∷ l) (walk-miss x xs k.stamp (before-apart_left x.parent k.stamp (before-trans x.parent x.stamp k.stamp g h)))

below-own : (x : Insertion) (xs : List Insertion) → before x.parent x.stamp ≡ true → below (x ∷ xs) x ≡ below xs x
below-own x xs g = ap (λ l. x ∷ l) (walk-miss x xs x.stamp (before-apart_left x.parent x.stamp g))

pub walk-kids : (xs : List Insertion) → IsAscending xs → Each (λ x. before x.parent x.stamp ≡ true) xs → (s : Stamp) → walk_from xs s ≡ flat_map (below xs) (reverse (filter (on s) xs))
unfolding walk_from
walk-kids [] up g s = refl
walk-kids (x ∷ xs) up g s =
    by_cases (same x.parent s)
    (λ h. rw (walk-hit x xs s h, filter-hit (on s) x xs h, reverse-first x F, flat_map-append (below (x ∷ xs)) (reverse F) (x ∷ []), older, own)
    (ap (λ l. l ++ x ∷ walk_from xs x.stamp) (walk-kids xs up.1 g.1 s)))
    (λ h. rw (walk-miss x xs s h, filter-miss (on s) x xs h, older) (walk-kids xs up.1 g.1 s))
  where
    F : List Insertion
    F = filter (on s) xs

    own : flat_map (below (x ∷ xs)) (x ∷ []) ≡ x ∷ walk_from xs x.stamp
    own = append-nil (below (x ∷ xs) x) ∙ below-own x xs g.0

    older : flat_map (below (x ∷ xs)) (reverse F) ≡ flat_map (below xs) (reverse F)
    older = flat_map-alike (below (x ∷ xs)) (below xs) (reverse F)
        (Each-weaker (λ k. before x.stamp k.stamp ≡ true) (λ k. below (x ∷ xs) k ≡ below xs k) (λ k h. below-first x xs g.0 k h) (reverse F)
        (Each-reverse (λ k. before x.stamp k.stamp ≡ true) F (each-filter (λ k. before x.stamp k.stamp ≡ true) (on s) xs up.0)))

-- ---- the kids

falling-last : (xs : List Insertion) (x : Insertion) → IsFalling xs → Each (λ y. before x.stamp y.stamp ≡ true) xs → IsFalling (xs ++ x ∷ [])
falling-last [] x f h = (tt, tt)
falling-last (y ∷ ys) x f h = (Each-append (λ z. before z.stamp y.stamp ≡ true) ys (x ∷ []) f.0 (h.0, tt), falling-last ys x f.1 h.1)

falling-reverse : (xs : List Insertion) → IsAscending xs → IsFalling (reverse xs)
falling-reverse [] up = tt
falling-reverse (x ∷ xs) up = rw (reverse-first x xs) (falling-last (reverse xs) x (falling-reverse xs up.1) (Each-reverse (λ y. before x.stamp y.stamp ≡ true) xs up.0))

-- the walk in the words of children
pub walk_of_kids : (h : OpSet) → Each IsLawful (in_order h) → IsWalkOfKids (in_order h)
unfolding walk
walk_of_kids h l = record {
  kids_of = λ s x. (
    λ m. let q = among-filter (on s) (live_inserts (in_order h)) x (among-reverse (filter (on s) (live_inserts (in_order h))) x m) in (q.0, same-true x.parent s q.1),
    λ p. among-reversed (filter (on s) (live_inserts (in_order h))) x (among-filter_from (on s) (live_inserts (in_order h)) x p.0 (same-from x.parent s p.1)),
  );
  greatest_first = λ s. falling-reverse (filter (on s) (live_inserts (in_order h))) (ascending_filter (on s) (live_inserts (in_order h)) (live_ascending h));
  starts = refl;
  goes_on = λ s. walk-kids (live_inserts (in_order h)) (live_ascending h) (live_grows (in_order h) l).0 s;
}

-- ---- the live and the clear

-- f keeps what hangs on a stamp that is kept, and those are all that the walk reaches
walk-filter : (f : Insertion → Bool) (keeps : Stamp → Bool) (xs : List Insertion) → Each (λ x. f x ≡ keeps x.parent) xs → Each (λ x. keeps x.parent ≡ true → keeps x.stamp ≡ true) xs
    → (s : Stamp) → keeps s ≡ true → walk_from (filter f xs) s ≡ walk_from xs s
unfolding walk_from
walk-filter f keeps [] e k s t = refl
walk-filter f keeps (x ∷ xs) e k s t =
    by_cases (f x)
    (λ fx. rw (filter-hit f x xs fx)
    (by_cases (same x.parent s)
    (λ h. rw (walk-hit x (filter f xs) s h, walk-hit x xs s h, walk-filter f keeps xs e.1 k.1 s t, walk-filter f keeps xs e.1 k.1 x.stamp (k.0 (sym e.0 ∙ fx))))
    (λ h. rw (walk-miss x (filter f xs) s h, walk-miss x xs s h) (walk-filter f keeps xs e.1 k.1 s t))))
    (λ fx. rw (filter-miss f x xs fx) (walk-filter f keeps xs e.1 k.1 s t ∙ sym (walk-miss x xs s (off fx))))
  where
    off : f x ≡ false → same x.parent s ≡ false
    off fx = by_cases (same x.parent s) (λ h. absurd (true≢false (sym t ∙ ap keeps (sym (same-true x.parent s h)) ∙ sym e.0 ∙ fx))) (λ h. h)

-- the walk of the live inserts is that of the clear ones
pub walk-clear : (h : OpSet) → Each IsLawful (in_order h) → walk (in_order h) ≡ walk_from (clear_inserts (in_order h)) head
unfolding walk live_inserts
walk-clear h l =
    walk-filter (λ x. is_live ops x.parent) (is_live ops) (clear_inserts ops)
    (each-from_among (λ x. is_live ops x.parent ≡ is_live ops x.parent) (clear_inserts ops) (λ x m. refl))
    (each-from_among (λ x. is_live ops x.parent ≡ true → is_live ops x.stamp ≡ true) (clear_inserts ops)
    (λ x m live. ap (λ t. same t head) (step (reverse (clear_inserts ops)) (descends (clear_inserts ops) (clear_ascending h) (clear_grows ops l).0) x (among-reversed (clear_inserts ops) x m)).1 ∙ live))
    head (ap (λ t. same t head) (way-absent (reverse (clear_inserts ops)) head (Each-reverse (λ x. same x.stamp head ≡ false) (clear_inserts ops) (clear_grows ops l).1)) ∙ same-refl head)
  where
    ops : List Op
    ops = in_order h

-- the walk has each live insert
pub live-walk : (h : OpSet) → Each IsLawful (in_order h) → (x : Insertion) → Among x (live_inserts (in_order h)) → Among x (walk (in_order h))
live-walk h l x m =
    subst (Among x) (sym (walk-clear h l))
    (among-walk (clear_inserts ops) (clear_ascending h) head (clear_grows ops l).1 x (live-parts ops x m).0
    ((step (reverse (clear_inserts ops)) (descends (clear_inserts ops) (clear_ascending h) (clear_grows ops l).0) x (among-reversed (clear_inserts ops) x (live-parts ops x m).0)).1
    ∙ same-true (way_end (reverse (clear_inserts ops)) x.parent) head (live-parts ops x m).1))
  where
    ops : List Op
    ops = in_order h

-- and nothing else
pub walk-live : (ops : List Op) (x : Insertion) → Among x (walk ops) → Among x (live_inserts ops)
unfolding walk
walk-live ops x m = each-among (λ y. Among y (live_inserts ops)) (walk_from (live_inserts ops) head) x (walk-each (λ y. Among y (live_inserts ops)) (live_inserts ops) head (each-from_among (λ y. Among y (live_inserts ops)) (live_inserts ops) (λ y n. n))) m

-- what stands in path order is apart
apart-ordered : (p : Stamp → List Stamp) (xs : List Insertion) → InPathOrder p xs → AreApart xs
apart-ordered p [] o = tt
apart-ordered p (x ∷ xs) o = (
  Each-weaker (λ y. path_cmp (p x.stamp) (p y.stamp) ≡ Less) (λ y. same y.stamp x.stamp ≡ false)
      (λ y l. by_cases (same y.stamp x.stamp) (λ k. absurd (not_less_itself (p x.stamp) (subst (λ s. path_cmp (p x.stamp) (p s) ≡ Less) (same-true y.stamp x.stamp k) l))) (λ k. k)) xs o.0,
  apart-ordered p xs o.1,
)

pub walk-apart : (h : OpSet) → Each IsLawful (in_order h) → AreApart (walk (in_order h))
unfolding walk
walk-apart h l = apart-ordered (path_in (reverse (live_inserts (in_order h)))) (walk_from (live_inserts (in_order h)) head) (walk-in_order (live_inserts (in_order h)) (live_ascending h) head (live_grows (in_order h) l).1)
