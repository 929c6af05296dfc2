-- A walk is in the order of its paths.
use Rattle.std.proofs.Common.{◌≡◌, true, false, List, [], ◌∷◌, ◌++◌, reverse, refl, sym, ap, ◌∙◌, subst, append_assoc, append-nil}
use Rattle.std.specs.Ordering.{ordering_then}
use Rattle.std.specs.Cmp.{IsTotalOrder}
use Rattle.std.proofs.lemmas.Cmp.{tied_itself, back_total, lists_total}
use Rattle.std.specs.FinMap.{IsAntisymmetric, slice_cmp-IsAntisymmetric}
use Rattle.std.proofs.lemmas.Grind.{reverse_onto}
use Rattle.std.specs.declared.cmp.Ordering.TheVariants.{Less}
use Rattle.desk_ops.specs.declared.op.Stamp.{Stamp}
use Rattle.desk_ops.specs.Op.{Insertion}
use Rattle.desk_ops.specs.Stamp.{same, before, stamp_cmp}
use Rattle.desk_ops.specs.Walk.{walk_from}
use Rattle.desk_ops.specs.Scan.{IsAscending}
use Rattle.desk_ops.specs.Held.{way_end}
use Rattle.desk_ops.specs.PathOrder.{path_in, path_cmp, InPathOrder}
use Rattle.desk_ops.proofs.Stamps.{stamp_total, stamp_tied, same-true, same-refl, is_less, by_cases}
use Rattle.desk_ops.proofs.Lists.{Each, Each-append, Each-weaker, Each-both}
use Rattle.desk_ops.proofs.Scans.{Absent, walk-hit, walk-miss, first-apart}

-- ---- the order of paths is total

pub path_total : IsTotalOrder path_cmp
unfolding path_cmp
path_total = lists_total (back_total stamp_total)

pub path_antisymmetric : IsAntisymmetric path_cmp
unfolding path_cmp
path_antisymmetric = slice_cmp-IsAntisymmetric (λ a b e. sym (stamp_tied b a e))

path_cmp-cons : (s : Stamp) (p q : List Stamp) → path_cmp (s ∷ p) (s ∷ q) ≡ path_cmp p q
unfolding path_cmp
path_cmp-cons s p q = ap (λ r. ordering_then r (path_cmp p q)) (tied_itself stamp_total s)

abbrev Begins : (Stamp → Type 0) → List Stamp → Type 0
Begins R [] = ⊥
Begins R (k ∷ ks) = R k

path_cmp-begins : (s : Stamp) (p q : List Stamp) → Begins (λ k. before s k ≡ true) p → Begins (λ k. k ≡ s) q → path_cmp p q ≡ Less
unfolding path_cmp before
path_cmp-begins s [] q h k = absurd h
path_cmp-begins s (a ∷ p) [] h k = absurd k
path_cmp-begins s (a ∷ p) (b ∷ q) h k = ap (λ r. ordering_then r (path_cmp p q)) (ap (λ c. stamp_cmp c a) k ∙ is_less (stamp_cmp s a) h)

-- ---- ways and paths, once a test is known

pub way-hit : (x : Insertion) (ds : List Insertion) (s : Stamp) → same x.stamp s ≡ true → way_end (x ∷ ds) s ≡ way_end ds x.parent
unfolding way_end
way-hit x ds s h = rw (h, way_end)

pub way-miss : (x : Insertion) (ds : List Insertion) (s : Stamp) → same x.stamp s ≡ false → way_end (x ∷ ds) s ≡ way_end ds s
unfolding way_end
way-miss x ds s h = rw (h, way_end)

pub path-hit : (x : Insertion) (ds : List Insertion) (s : Stamp) → same x.stamp s ≡ true → path_in (x ∷ ds) s ≡ path_in ds x.parent ++ x.stamp ∷ []
unfolding path_in
path-hit x ds s h = rw (h, path_in)

pub path-miss : (x : Insertion) (ds : List Insertion) (s : Stamp) → same x.stamp s ≡ false → path_in (x ∷ ds) s ≡ path_in ds s
unfolding path_in
path-miss x ds s h = rw (h, path_in)

way-append : (ds es : List Insertion) (s : Stamp) → way_end (ds ++ es) s ≡ way_end es (way_end ds s)
unfolding way_end
way-append [] es s = refl
way-append (d ∷ ds) es s =
    by_cases (same d.stamp s)
    (λ h. way-hit d (ds ++ es) s h ∙ way-append ds es d.parent ∙ ap (way_end es) (sym (way-hit d ds s h)))
    (λ h. way-miss d (ds ++ es) s h ∙ way-append ds es s ∙ ap (way_end es) (sym (way-miss d ds s h)))

path-append : (ds es : List Insertion) (s : Stamp) → path_in (ds ++ es) s ≡ path_in es (way_end ds s) ++ path_in ds s
unfolding path_in way_end
path-append [] es s = sym (append-nil (path_in es s))
path-append (d ∷ ds) es s =
    by_cases (same d.stamp s)
    (λ h. rw (path-hit d (ds ++ es) s h, path-hit d ds s h, way-hit d ds s h, path-append ds es d.parent) (append_assoc (path_in es (way_end ds d.parent)) (path_in ds d.parent) (d.stamp ∷ [])))
    (λ h. rw (path-miss d (ds ++ es) s h, path-miss d ds s h, way-miss d ds s h) (path-append ds es s))

pub way-absent : (ds : List Insertion) (s : Stamp) → Absent s ds → way_end ds s ≡ s
unfolding way_end
way-absent [] s a = refl
way-absent (d ∷ ds) s a = way-miss d ds s a.0 ∙ way-absent ds s a.1

pub path-absent : (ds : List Insertion) (s : Stamp) → Absent s ds → path_in ds s ≡ []
unfolding path_in
path-absent [] s a = refl
path-absent (d ∷ ds) s a = path-miss d ds s a.0 ∙ path-absent ds s a.1

pub reverse-first : (x : Insertion) (xs : List Insertion) → reverse (x ∷ xs) ≡ reverse xs ++ x ∷ []
reverse-first x xs = reverse_onto xs x []

pub Each-reverse : (P : Insertion → Type 0) (xs : List Insertion) → Each P xs → Each P (reverse xs)
Each-reverse P [] h = tt
Each-reverse P (x ∷ xs) h = rw (reverse-first x xs) (Each-append P (reverse xs) (x ∷ []) (Each-reverse P xs h.1) (h.0, tt))

pub way-first : (x : Insertion) (xs : List Insertion) (s : Stamp) → way_end (reverse (x ∷ xs)) s ≡ way_end (x ∷ []) (way_end (reverse xs) s)
way-first x xs s = ap (λ l. way_end l s) (reverse-first x xs) ∙ way-append (reverse xs) (x ∷ []) s

path-first : (x : Insertion) (xs : List Insertion) (s : Stamp) → path_in (reverse (x ∷ xs)) s ≡ path_in (x ∷ []) (way_end (reverse xs) s) ++ path_in (reverse xs) s
path-first x xs s = ap (λ l. path_in l s) (reverse-first x xs) ∙ path-append (reverse xs) (x ∷ []) s

-- ---- the way and the path of each of the walk

-- the way stays, where it ends elsewhere than at x
way-kept : (x : Insertion) (xs : List Insertion) (s t : Stamp) → same x.stamp s ≡ false → way_end (reverse xs) t ≡ s → way_end (reverse (x ∷ xs)) t ≡ s
unfolding way_end
way-kept x xs s t ne w = way-first x xs t ∙ ap (way_end (x ∷ [])) w ∙ way-miss x [] s ne

pub way-grown : (x : Insertion) (xs : List Insertion) (t : Stamp) → way_end (reverse xs) t ≡ x.stamp → way_end (reverse (x ∷ xs)) t ≡ x.parent
unfolding way_end
way-grown x xs t w = way-first x xs t ∙ ap (way_end (x ∷ [])) w ∙ way-hit x [] x.stamp (same-refl x.stamp)

path-kept : (x : Insertion) (xs : List Insertion) (s t : Stamp) → same x.stamp s ≡ false → way_end (reverse xs) t ≡ s → path_in (reverse (x ∷ xs)) t ≡ path_in (reverse xs) t
unfolding path_in
path-kept x xs s t ne w = path-first x xs t ∙ ap (λ e. path_in (x ∷ []) e ++ path_in (reverse xs) t) w ∙ ap (λ l. l ++ path_in (reverse xs) t) (path-miss x [] s ne)

path-grown : (x : Insertion) (xs : List Insertion) (t : Stamp) → way_end (reverse xs) t ≡ x.stamp → path_in (reverse (x ∷ xs)) t ≡ x.stamp ∷ path_in (reverse xs) t
unfolding path_in
path-grown x xs t w = path-first x xs t ∙ ap (λ e. path_in (x ∷ []) e ++ path_in (reverse xs) t) w ∙ ap (λ l. l ++ path_in (reverse xs) t) (path-hit x [] x.stamp (same-refl x.stamp))

pub own-way : (x : Insertion) (xs : List Insertion) → Absent x.stamp xs → way_end (reverse xs) x.stamp ≡ x.stamp
own-way x xs a = way-absent (reverse xs) x.stamp (Each-reverse (λ y. same y.stamp x.stamp ≡ false) xs a)

own-path : (x : Insertion) (xs : List Insertion) → Absent x.stamp xs → path_in (reverse (x ∷ xs)) x.stamp ≡ x.stamp ∷ []
own-path x xs a = path-grown x xs x.stamp (own-way x xs a) ∙ ap (λ l. x.stamp ∷ l) (path-absent (reverse xs) x.stamp (Each-reverse (λ y. same y.stamp x.stamp ≡ false) xs a))

-- from each element of what hangs on s the way ends at s
pub walk-ways : (xs : List Insertion) → IsAscending xs → (s : Stamp) → Absent s xs → Each (λ y. way_end (reverse xs) y.stamp ≡ s) (walk_from xs s)
unfolding walk_from
walk-ways [] up s a = tt
walk-ways (x ∷ xs) up s a =
    by_cases (same x.parent s)
    (λ h. rw (walk-hit x xs s h)
    (Each-append (λ y. way_end (reverse (x ∷ xs)) y.stamp ≡ s) (walk_from xs s) (x ∷ walk_from xs x.stamp) (kept (walk-ways xs up.1 s a.1)) (
      way-grown x xs x.stamp (own-way x xs apart) ∙ same-true x.parent s h,
      Each-weaker (λ y. way_end (reverse xs) y.stamp ≡ x.stamp) (λ y. way_end (reverse (x ∷ xs)) y.stamp ≡ s) (λ y w. way-grown x xs y.stamp w ∙ same-true x.parent s h) (walk_from xs x.stamp) (walk-ways xs up.1 x.stamp apart),
    )))
    (λ h. rw (walk-miss x xs s h) (kept (walk-ways xs up.1 s a.1)))
  where
    apart : Absent x.stamp xs
    apart = first-apart x xs up

    kept : Each (λ y. way_end (reverse xs) y.stamp ≡ s) (walk_from xs s) → Each (λ y. way_end (reverse (x ∷ xs)) y.stamp ≡ s) (walk_from xs s)
    kept h = Each-weaker (λ y. way_end (reverse xs) y.stamp ≡ s) (λ y. way_end (reverse (x ∷ xs)) y.stamp ≡ s) (λ y w. way-kept x xs s y.stamp a.0 w) (walk_from xs s) h

-- the path of each begins with a stamp of the list
walk-begins : (R : Stamp → Type 0) (xs : List Insertion) → IsAscending xs → Each (λ x. R x.stamp) xs → (s : Stamp) → Absent s xs → Each (λ y. Begins R (path_in (reverse xs) y.stamp)) (walk_from xs s)
unfolding walk_from
walk-begins R [] up each s a = tt
walk-begins R (x ∷ xs) up each s a =
    by_cases (same x.parent s)
    (λ h. rw (walk-hit x xs s h)
    (Each-append (λ y. Begins R (path_in (reverse (x ∷ xs)) y.stamp)) (walk_from xs s) (x ∷ walk_from xs x.stamp) (kept (walk-begins R xs up.1 each.1 s a.1)) (
      subst (Begins R) (sym (own-path x xs apart)) each.0,
      Each-weaker (λ y. way_end (reverse xs) y.stamp ≡ x.stamp) (λ y. Begins R (path_in (reverse (x ∷ xs)) y.stamp)) (λ y w. subst (Begins R) (sym (path-grown x xs y.stamp w)) each.0) (walk_from xs x.stamp) (walk-ways xs up.1 x.stamp apart),
    )))
    (λ h. rw (walk-miss x xs s h) (kept (walk-begins R xs up.1 each.1 s a.1)))
  where
    apart : Absent x.stamp xs
    apart = first-apart x xs up

    kept : Each (λ y. Begins R (path_in (reverse xs) y.stamp)) (walk_from xs s) → Each (λ y. Begins R (path_in (reverse (x ∷ xs)) y.stamp)) (walk_from xs s)
    kept h = Each-both (λ y. way_end (reverse xs) y.stamp ≡ s) (λ y. Begins R (path_in (reverse xs) y.stamp)) (λ y. Begins R (path_in (reverse (x ∷ xs)) y.stamp))
        (λ y w b. subst (Begins R) (sym (path-kept x xs s y.stamp a.0 w)) b) (walk_from xs s) (walk-ways xs up.1 s a.1) h

-- ---- in order

order-append : (p : Stamp → List Stamp) (xs ys : List Insertion) → InPathOrder p xs → InPathOrder p ys → Each (λ x. Each (λ y. path_cmp (p x.stamp) (p y.stamp) ≡ Less) ys) xs → InPathOrder p (xs ++ ys)
order-append p [] ys h k c = k
order-append p (x ∷ xs) ys h k c = (Each-append (λ y. path_cmp (p x.stamp) (p y.stamp) ≡ Less) xs ys h.0 c.0, order-append p xs ys h.1 k c.1)

-- by paths that compare alike
pub order-alike : (p q : Stamp → List Stamp) (g : List Stamp → List Stamp) → ((a b : List Stamp) → path_cmp (g a) (g b) ≡ path_cmp a b) → (xs : List Insertion) → Each (λ y. q y.stamp ≡ g (p y.stamp)) xs → InPathOrder p xs → InPathOrder q xs
order-alike p q g alike [] e h = tt
order-alike p q g alike (x ∷ xs) e h = (
  Each-both (λ y. q y.stamp ≡ g (p y.stamp)) (λ y. path_cmp (p x.stamp) (p y.stamp) ≡ Less) (λ y. path_cmp (q x.stamp) (q y.stamp) ≡ Less)
      (λ y f l. ap (λ a. path_cmp a (q y.stamp)) e.0 ∙ ap (path_cmp (g (p x.stamp))) f ∙ alike (p x.stamp) (p y.stamp) ∙ l) xs e.1 h.0,
  order-alike p q g alike xs e.1 h.1,
)

path_cmp-nil : (R : Stamp → Type 0) (q : List Stamp) → Begins R q → path_cmp [] q ≡ Less
unfolding path_cmp
path_cmp-nil R [] b = absurd b
path_cmp-nil R (k ∷ q) b = refl

path_cmp-prefix : (R : Stamp → Type 0) (s : Stamp) (q : List Stamp) → Begins R q → path_cmp (s ∷ []) (s ∷ q) ≡ Less
path_cmp-prefix R s q b = path_cmp-cons s [] q ∙ path_cmp-nil R q b

-- below an insert that hangs on s: what stood before, then the insert, then what hangs on it
order-grown : (x : Insertion) (xs : List Insertion) → IsAscending (x ∷ xs) → (s : Stamp) → Absent s (x ∷ xs)
    → InPathOrder (path_in (reverse (x ∷ xs))) (walk_from xs s) → InPathOrder (path_in (reverse xs)) (walk_from xs x.stamp) → InPathOrder (path_in (reverse (x ∷ xs))) (walk_from xs s ++ x ∷ walk_from xs x.stamp)
order-grown x xs up s a kept inner =
    order-append p A (x ∷ B) kept (own, order-alike q p (λ l. x.stamp ∷ l) (path_cmp-cons x.stamp) B grown inner)
    (Each-both (λ y. way_end (reverse xs) y.stamp ≡ s) (λ y. Begins (λ k. before x.stamp k ≡ true) (q y.stamp)) (λ y. Each (λ z. path_cmp (p y.stamp) (p z.stamp) ≡ Less) (x ∷ B))
    (λ y w b. first y (subst (Begins (λ k. before x.stamp k ≡ true)) (sym (path-kept x xs s y.stamp a.0 w)) b)) A (walk-ways xs up.1 s a.1) (walk-begins (λ k. before x.stamp k ≡ true) xs up.1 up.0 s a.1))
  where
    p : Stamp → List Stamp
    p = path_in (reverse (x ∷ xs))

    q : Stamp → List Stamp
    q = path_in (reverse xs)

    A : List Insertion
    A = walk_from xs s

    B : List Insertion
    B = walk_from xs x.stamp

    apart : Absent x.stamp xs
    apart = first-apart x xs up

    grown : Each (λ y. p y.stamp ≡ x.stamp ∷ q y.stamp) B
    grown = Each-weaker (λ y. way_end (reverse xs) y.stamp ≡ x.stamp) (λ y. p y.stamp ≡ x.stamp ∷ q y.stamp) (λ y w. path-grown x xs y.stamp w) B (walk-ways xs up.1 x.stamp apart)

    inner_begins : Each (λ y. Begins (λ k. before x.stamp k ≡ true) (q y.stamp)) B
    inner_begins = walk-begins (λ k. before x.stamp k ≡ true) xs up.1 up.0 x.stamp apart

    own : Each (λ y. path_cmp (p x.stamp) (p y.stamp) ≡ Less) B
    own = Each-both (λ y. p y.stamp ≡ x.stamp ∷ q y.stamp) (λ y. Begins (λ k. before x.stamp k ≡ true) (q y.stamp)) (λ y. path_cmp (p x.stamp) (p y.stamp) ≡ Less)
        (λ y e b. ap (λ l. path_cmp l (p y.stamp)) (own-path x xs apart) ∙ ap (path_cmp (x.stamp ∷ [])) e ∙ path_cmp-prefix (λ k. before x.stamp k ≡ true) x.stamp (q y.stamp) b) B grown inner_begins

    first : (y : Insertion) → Begins (λ k. before x.stamp k ≡ true) (p y.stamp) → Each (λ z. path_cmp (p y.stamp) (p z.stamp) ≡ Less) (x ∷ B)
    first y b = (
      path_cmp-begins x.stamp (p y.stamp) (p x.stamp) b (subst (Begins (λ k. k ≡ x.stamp)) (sym (own-path x xs apart)) refl),
      Each-weaker (λ z. p z.stamp ≡ x.stamp ∷ q z.stamp) (λ z. path_cmp (p y.stamp) (p z.stamp) ≡ Less) (λ z e. path_cmp-begins x.stamp (p y.stamp) (p z.stamp) b (subst (Begins (λ k. k ≡ x.stamp)) (sym e) refl)) B grown,
    )

pub walk-in_order : (xs : List Insertion) → IsAscending xs → (s : Stamp) → Absent s xs → InPathOrder (path_in (reverse xs)) (walk_from xs s)
unfolding walk_from
walk-in_order [] up s a = tt
walk-in_order (x ∷ xs) up s a =
    by_cases (same x.parent s)
    (λ h. rw (walk-hit x xs s h) (order-grown x xs up s a (kept (walk-in_order xs up.1 s a.1)) (walk-in_order xs up.1 x.stamp (first-apart x xs up))))
    (λ h. rw (walk-miss x xs s h) (kept (walk-in_order xs up.1 s a.1)))
  where
    kept : InPathOrder (path_in (reverse xs)) (walk_from xs s) → InPathOrder (path_in (reverse (x ∷ xs))) (walk_from xs s)
    kept h = order-alike (path_in (reverse xs)) (path_in (reverse (x ∷ xs))) (λ l. l) (λ a b. refl) (walk_from xs s)
        (Each-weaker (λ y. way_end (reverse xs) y.stamp ≡ s) (λ y. path_in (reverse (x ∷ xs)) y.stamp ≡ path_in (reverse xs) y.stamp) (λ y w. path-kept x xs s y.stamp a.0 w) (walk_from xs s) (walk-ways xs up.1 s a.1)) h
