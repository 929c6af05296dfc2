-- An insert that is live in two sets that agree has the same path in both, so elements that both show keep their order.
use Rattle.std.proofs.Common.{◌≡◌, true, false, List, [], ◌∷◌, ◌++◌, reverse, refl, sym, ap, ◌∙◌, subst, ◌⊎◌, inl, inr}
use Rattle.std.proofs.lemmas.Bool.{true≢false}
use Rattle.std.proofs.lemmas.Cmp.{tied_itself}
use Rattle.std.proofs.lemmas.List.{reverse-reverse}
use Rattle.std.specs.declared.cmp.Ordering.TheVariants.{Less}
use Rattle.std.specs.Ordering.{is_lt}
use Rattle.desk_ops.specs.declared.op.Stamp.{Stamp}
use Rattle.desk_ops.specs.Op.{Insertion}
use Rattle.desk_ops.specs.Stamp.{same, before, head}
use Rattle.desk_ops.specs.Walk.{walk_from}
use Rattle.desk_ops.specs.Scan.{IsAscending}
use Rattle.desk_ops.specs.Held.{way_end}
use Rattle.desk_ops.specs.PathOrder.{path_in, path_cmp, InPathOrder}
use Rattle.desk_ops.specs.Lists.{Among, Precedes}
use Rattle.desk_ops.proofs.Lists.{Each, Each-append, each-among, each-from_among, precedes-first, precedes-second, precedes-cases}
use Rattle.desk_ops.proofs.Stamps.{same-true, same-refl, same-from, same-symm, by_cases, before-trans, before-apart}
use Rattle.desk_ops.proofs.Scans.{Absent}
use Rattle.desk_ops.proofs.Paths.{way-hit, way-miss, path-hit, path-miss, path-absent, reverse-first, Each-reverse, walk-ways, walk-in_order, path_total}

-- greatest stamp first, each parent older
abbrev pub Descends : List Insertion → Type 0
Descends [] = Unit {0}
Descends (x ∷ older) = Each (λ y. before y.stamp x.stamp ≡ true) older × (before x.parent x.stamp ≡ true) × Descends older

-- the first step of the way from one of the list
pub step : (es : List Insertion) → Descends es → (d : Insertion) → Among d es → (path_in es d.stamp ≡ path_in es d.parent ++ d.stamp ∷ []) × (way_end es d.stamp ≡ way_end es d.parent)
step [] t d m = absurd m
step (e ∷ es) t d (inl i) = subst (λ (d : Insertion). (path_in (e ∷ es) d.stamp ≡ path_in (e ∷ es) d.parent ++ d.stamp ∷ []) × (way_end (e ∷ es) d.stamp ≡ way_end (e ∷ es) d.parent)) i (
  path-hit e es e.stamp (same-refl e.stamp) ∙ ap (λ l. l ++ e.stamp ∷ []) (sym (path-miss e es e.parent far)),
  way-hit e es e.stamp (same-refl e.stamp) ∙ sym (way-miss e es e.parent far),
)
  where
    far : same e.stamp e.parent ≡ false
    far = before-apart e.parent e.stamp t.1
step (e ∷ es) t d (inr m) = (
  path-miss e es d.stamp apart ∙ (rest (step es t.2 d m)).0 ∙ ap (λ l. l ++ d.stamp ∷ []) (sym (path-miss e es d.parent far)),
  way-miss e es d.stamp apart ∙ (rest (step es t.2 d m)).1 ∙ sym (way-miss e es d.parent far),
)
  where
    rest : {A : Type 0} → A → A
    rest a = a

    older : before d.stamp e.stamp ≡ true
    older = each-among (λ y. before y.stamp e.stamp ≡ true) es d t.0 m

    apart : same e.stamp d.stamp ≡ false
    apart = before-apart d.stamp e.stamp older

    parent_older : (es : List Insertion) → Descends es → Among d es → before d.parent d.stamp ≡ true
    parent_older [] t m = absurd m
    parent_older (e ∷ es) t (inl i) = subst (λ (d : Insertion). before d.parent d.stamp ≡ true) i t.1
    parent_older (e ∷ es) t (inr m) = parent_older es t.2 m

    far : same e.stamp d.parent ≡ false
    far = before-apart d.parent e.stamp (before-trans d.parent d.stamp e.stamp (parent_older es t.2 m) older)

-- a way that goes to another stamp starts at one of the list
pub started : (es : List Insertion) (s h : Stamp) → way_end es s ≡ h → same s h ≡ false → (e : Insertion) × Among e es × (same e.stamp s ≡ true)
unfolding way_end
started [] s h w ne = absurd (true≢false (sym (same-from s h w) ∙ ne))
started (e ∷ es) s h w ne =
    by_cases (same e.stamp s)
    (λ k. (e, inl refl, k))
    (λ k. let r = started es s h (sym (way-miss e es s k) ∙ w) ne in (r.0, inr r.1, r.2))

-- of two lists: inserts of one stamp are one insert
abbrev pub Agree : List Insertion → List Insertion → Type 0
Agree ds es = (d e : Insertion) → Among d ds → Among e es → same d.stamp e.stamp ≡ true → d ≡ e

path-agrees_at : (d : Insertion) (ds es : List Insertion) → Descends es → Agree (d ∷ ds) es → same d.stamp head ≡ false
    → (way_end es d.parent ≡ head → path_in ds d.parent ≡ path_in es d.parent) → way_end es d.stamp ≡ head → path_in (d ∷ ds) d.stamp ≡ path_in es d.stamp
path-agrees_at d ds es te agree nd rest we = path-hit d ds d.stamp (same-refl d.stamp) ∙ ap (λ l. l ++ d.stamp ∷ []) (rest (sym (step es te d here).1 ∙ we)) ∙ sym (step es te d here).0
  where
    found : (e : Insertion) × Among e es × (same e.stamp d.stamp ≡ true)
    found = started es d.stamp head we nd

    here : Among d es
    here = subst (λ x. Among x es) (sym (agree d found.0 (inl refl) found.1 (same-symm d.stamp found.0.stamp ∙ found.2))) found.1

pub path-agrees : (ds es : List Insertion) → Descends es → Agree ds es → Absent head ds → Absent head es → (s : Stamp) → way_end ds s ≡ head → way_end es s ≡ head → path_in ds s ≡ path_in es s
unfolding way_end path_in
path-agrees [] es te agree hd he s wd we = sym (ap (path_in es) wd ∙ path-absent es head he)
path-agrees (d ∷ ds) es te agree hd he s wd we =
    by_cases (same d.stamp s)
    (λ h. subst (λ t. path_in (d ∷ ds) t ≡ path_in es t) (same-true d.stamp s h)
    (path-agrees_at d ds es te agree hd.0
    (λ w. path-agrees ds es te (λ a e m. agree a e (inr m)) hd.1 he d.parent (sym (way-hit d ds s h) ∙ wd) w)
    (ap (way_end es) (same-true d.stamp s h) ∙ we)))
    (λ h. path-miss d ds s h ∙ path-agrees ds es te (λ a e m. agree a e (inr m)) hd.1 he s (sym (way-miss d ds s h) ∙ wd) we)

-- ---- order

precedes-less : (p : Stamp → List Stamp) (w : List Insertion) → InPathOrder p w → (x y : Insertion) → Precedes x y w → path_cmp (p x.stamp) (p y.stamp) ≡ Less
precedes-less p [] o x y m = absurd m
precedes-less p (z ∷ zs) o x y (inl h) = subst (λ (x : Insertion). path_cmp (p x.stamp) (p y.stamp) ≡ Less) h.0 (each-among (λ y. path_cmp (p z.stamp) (p y.stamp) ≡ Less) zs y o.0 h.1)
precedes-less p (z ∷ zs) o x y (inr m) = precedes-less p zs o.1 x y m

pub not_less_itself : (a : List Stamp) → path_cmp a a ≡ Less → ⊥
not_less_itself a e = true≢false (sym (ap is_lt e) ∙ ap is_lt (tied_itself path_total a))

-- in a list in order, what stands first by its path precedes
less-precedes : (p : Stamp → List Stamp) (w : List Insertion) → InPathOrder p w → (x y : Insertion) → Among x w → Among y w → path_cmp (p x.stamp) (p y.stamp) ≡ Less → Precedes x y w
less-precedes p w o x y m n l = go (precedes-cases w x y m n)
  where
    go : Precedes x y w ⊎ ((x ≡ y) ⊎ Precedes y x w) → Precedes x y w
    go (inl h) = h
    go (inr (inl e)) = absurd (not_less_itself (p y.stamp) (subst (λ (x : Insertion). path_cmp (p x.stamp) (p y.stamp) ≡ Less) e l))
    go (inr (inr h)) = absurd (not_less_itself (p x.stamp) (path_total.trans (p x.stamp) (p y.stamp) (p x.stamp) l (precedes-less p w o y x h)))

-- each insert is younger than its parent, and none has the head's stamp
abbrev pub Grows : List Insertion → Type 0
Grows xs = Each (λ x. before x.parent x.stamp ≡ true) xs × Absent head xs

descends-last : (ds : List Insertion) (x : Insertion) → Descends ds → Each (λ y. before x.stamp y.stamp ≡ true) ds → before x.parent x.stamp ≡ true → Descends (ds ++ x ∷ [])
descends-last [] x t h p = (tt, p, tt)
descends-last (d ∷ ds) x t h p = (Each-append (λ y. before y.stamp d.stamp ≡ true) ds (x ∷ []) t.0 (h.0, tt), t.1, descends-last ds x t.2 h.1 p)

pub descends : (xs : List Insertion) → IsAscending xs → Each (λ x. before x.parent x.stamp ≡ true) xs → Descends (reverse xs)
descends [] up g = tt
descends (x ∷ xs) up g = rw (reverse-first x xs) (descends-last (reverse xs) x (descends xs up.1 g.1) (Each-reverse (λ y. before x.stamp y.stamp ≡ true) xs up.0) g.0)

pub among-reverse : (xs : List Insertion) (x : Insertion) → Among x (reverse xs) → Among x xs
among-reverse xs x m = each-among (λ y. Among y xs) (reverse xs) x (Each-reverse (λ y. Among y xs) xs (each-from_among (λ y. Among y xs) xs (λ y n. n))) m

pub among-reversed : (xs : List Insertion) (x : Insertion) → Among x xs → Among x (reverse xs)
among-reversed xs x m = each-among (λ y. Among y (reverse xs)) xs x (subst (Each (λ y. Among y (reverse xs))) (reverse-reverse xs) (Each-reverse (λ y. Among y (reverse xs)) (reverse xs) (each-from_among (λ y. Among y (reverse xs)) (reverse xs) (λ y n. n)))) m

-- an insert that both walks have has one path
pub same-path : (xs ys : List Insertion) → IsAscending xs → IsAscending ys → Grows xs → Grows ys → Agree xs ys → (x : Insertion) → Among x (walk_from xs head) → Among x (walk_from ys head)
    → path_in (reverse xs) x.stamp ≡ path_in (reverse ys) x.stamp
same-path xs ys ux uy gx gy agree x mx my =
    path-agrees (reverse xs) (reverse ys) (descends ys uy gy.0) (λ d e m n. agree d e (among-reverse xs d m) (among-reverse ys e n))
    (Each-reverse (λ y. same y.stamp head ≡ false) xs gx.1) (Each-reverse (λ y. same y.stamp head ≡ false) ys gy.1) x.stamp
    (each-among (λ y. way_end (reverse xs) y.stamp ≡ head) (walk_from xs head) x (walk-ways xs ux head gx.1) mx)
    (each-among (λ y. way_end (reverse ys) y.stamp ≡ head) (walk_from ys head) x (walk-ways ys uy head gy.1) my)

-- elements that both walks have stand in one order
pub order-kept : (xs ys : List Insertion) → IsAscending xs → IsAscending ys → Grows xs → Grows ys → Agree xs ys → (x y : Insertion)
    → Precedes x y (walk_from xs head) → Among x (walk_from ys head) → Among y (walk_from ys head) → Precedes x y (walk_from ys head)
order-kept xs ys ux uy gx gy agree x y before mx my =
    less-precedes (path_in (reverse ys)) (walk_from ys head) (walk-in_order ys uy head gy.1) x y mx my
    (sym (ap (λ a. path_cmp a (path_in (reverse xs) y.stamp)) (same-path xs ys ux uy gx gy agree x (precedes-first (walk_from xs head) x y before) mx)
    ∙ ap (path_cmp (path_in (reverse ys) x.stamp)) (same-path xs ys ux uy gx gy agree y (precedes-second (walk_from xs head) x y before) my))
    ∙ precedes-less (path_in (reverse xs)) (walk_from xs head) (walk-in_order xs ux head gx.1) x y before)
