-- One more insert, put where the scan puts it, gives the walk with it.
use Rattle.std.proofs.Common.{◌≡◌, true, false, List, [], ◌∷◌, ◌++◌, refl, sym, ap, ◌∙◌, subst, ◌⊎◌, inl, inr}
use Rattle.std.specs.List.{AllByRecursion}
use Rattle.std.proofs.lemmas.Bool.{true≢false}
use Rattle.desk_ops.specs.declared.op.Stamp.{Stamp}
use Rattle.desk_ops.specs.Op.{Insertion}
use Rattle.desk_ops.specs.Stamp.{same, before}
use Rattle.desk_ops.specs.Walk.{walk_from}
use Rattle.desk_ops.proofs.Lists.{Each, Each-append, Each-weaker}
use Rattle.desk_ops.specs.Scan.{skip, after_parent, place_from, with_insert, IsAscending, IsNext}
use Rattle.desk_ops.proofs.Stamps.{same-true, same-from, same-symm, before-trans, before-other, by_cases, before-apart, before-asym}

-- ---- each definition, once its test is known

pub walk-hit : (x : Insertion) (later : List Insertion) (s : Stamp) → same x.parent s ≡ true → walk_from (x ∷ later) s ≡ walk_from later s ++ x ∷ walk_from later x.stamp
unfolding walk_from
walk-hit x later s e = rw (e, walk_from)

pub walk-miss : (x : Insertion) (later : List Insertion) (s : Stamp) → same x.parent s ≡ false → walk_from (x ∷ later) s ≡ walk_from later s
unfolding walk_from
walk-miss x later s e = rw (e, walk_from)

pub skip-stop : (e y : Insertion) (ys : List Insertion) → before y.stamp e.stamp ≡ true → skip e (y ∷ ys) ≡ e ∷ y ∷ ys
unfolding skip
skip-stop e y ys h = rw (h, skip)

pub skip-on : (e y : Insertion) (ys : List Insertion) → before y.stamp e.stamp ≡ false → skip e (y ∷ ys) ≡ y ∷ skip e ys
unfolding skip
skip-on e y ys h = rw (h, skip)

pub after-hit : (e y : Insertion) (ys : List Insertion) → same y.stamp e.parent ≡ true → after_parent e (y ∷ ys) ≡ y ∷ skip e ys
unfolding after_parent
after-hit e y ys h = rw (h, after_parent)

pub after-miss : (e y : Insertion) (ys : List Insertion) → same y.stamp e.parent ≡ false → after_parent e (y ∷ ys) ≡ y ∷ after_parent e ys
unfolding after_parent
after-miss e y ys h = rw (h, after_parent)

pub place-hit : (s : Stamp) (e : Insertion) (w : List Insertion) → same s e.parent ≡ true → place_from s e w ≡ skip e w
unfolding place_from
place-hit s e w h = rw (h, place_from)

pub place-miss : (s : Stamp) (e : Insertion) (w : List Insertion) → same s e.parent ≡ false → place_from s e w ≡ after_parent e w
unfolding place_from
place-miss s e w h = rw (h, place_from)

pub with-later : (e x : Insertion) (later : List Insertion) → before x.stamp e.stamp ≡ true → with_insert e (x ∷ later) ≡ x ∷ with_insert e later
unfolding with_insert
with-later e x later h = rw (h, with_insert)

pub with-here : (e x : Insertion) (later : List Insertion) → before x.stamp e.stamp ≡ false → with_insert e (x ∷ later) ≡ e ∷ x ∷ later
unfolding with_insert
with-here e x later h = rw (h, with_insert)

abbrev pub Absent : Stamp → List Insertion → Type 0
Absent p xs = AllByRecursion (λ y. same y.stamp p ≡ false) xs

-- what holds of each insert holds of each of the walk
pub walk-each : (P : Insertion → Type 0) (xs : List Insertion) (s : Stamp) → Each P xs → Each P (walk_from xs s)
unfolding walk_from
walk-each P [] s h = tt
walk-each P (x ∷ later) s h =
    by_cases (same x.parent s)
    (λ e. rw (walk-hit x later s e) (Each-append P (walk_from later s) (x ∷ walk_from later x.stamp) (walk-each P later s h.1) (h.0, walk-each P later x.stamp h.1)))
    (λ e. rw (walk-miss x later s e) (walk-each P later s h.1))

pub walk-no_child : (xs : List Insertion) (s : Stamp) → Each (λ x. same x.parent s ≡ false) xs → walk_from xs s ≡ []
unfolding walk_from
walk-no_child [] s h = refl
walk-no_child (x ∷ later) s h = walk-miss x later s h.0 ∙ walk-no_child later s h.1

-- ---- the scan over joined lists

skip-append : (e x : Insertion) (ps bs : List Insertion) → before x.stamp e.stamp ≡ true → skip e (ps ++ x ∷ bs) ≡ skip e ps ++ x ∷ bs
unfolding skip
skip-append e x [] bs h = skip-stop e x bs h
skip-append e x (y ∷ ys) bs h =
    by_cases (before y.stamp e.stamp)
    (λ k. rw (skip-stop e y (ys ++ x ∷ bs) k, skip-stop e y ys k))
    (λ k. rw (skip-on e y (ys ++ x ∷ bs) k, skip-on e y ys k) (ap (λ l. y ∷ l) (skip-append e x ys bs h)))

skip-all : (e : Insertion) (ys : List Insertion) → Each (λ y. before y.stamp e.stamp ≡ false) ys → skip e ys ≡ ys ++ e ∷ []
unfolding skip
skip-all e [] h = refl
skip-all e (y ∷ ys) h = skip-on e y ys h.0 ∙ ap (λ l. y ∷ l) (skip-all e ys h.1)

after-absent : (e : Insertion) (ys : List Insertion) → Absent e.parent ys → after_parent e ys ≡ ys
unfolding after_parent
after-absent e [] h = refl
after-absent e (y ∷ ys) h = after-miss e y ys h.0 ∙ ap (λ l. y ∷ l) (after-absent e ys h.1)

after-append_right : (e : Insertion) (ps bs : List Insertion) → Absent e.parent ps → after_parent e (ps ++ bs) ≡ ps ++ after_parent e bs
after-append_right e [] bs h = refl
after-append_right e (y ∷ ys) bs h = after-miss e y (ys ++ bs) h.0 ∙ ap (λ l. y ∷ l) (after-append_right e ys bs h.1)

after-append_left : (e x : Insertion) (ps bs : List Insertion) → before x.stamp e.stamp ≡ true → Absent e.parent (x ∷ bs) → after_parent e (ps ++ x ∷ bs) ≡ after_parent e ps ++ x ∷ bs
unfolding after_parent
after-append_left e x [] bs h a = after-absent e (x ∷ bs) a
after-append_left e x (y ∷ ys) bs h a =
    by_cases (same y.stamp e.parent)
    (λ k. rw (after-hit e y (ys ++ x ∷ bs) k, after-hit e y ys k) (ap (λ l. y ∷ l) (skip-append e x ys bs h)))
    (λ k. rw (after-miss e y (ys ++ x ∷ bs) k, after-miss e y ys k) (ap (λ l. y ∷ l) (after-append_left e x ys bs h a)))

-- ---- no insert hangs on two

-- the stamps of a list in ascending order are apart
pub first-apart : (x : Insertion) (later : List Insertion) → IsAscending (x ∷ later) → Absent x.stamp later
first-apart x later up = Each-weaker (λ y. before x.stamp y.stamp ≡ true) (λ y. same y.stamp x.stamp ≡ false) (λ y h. before-apart x.stamp y.stamp h) later up.0

pub walks-apart : (p : Stamp) (xs : List Insertion) → IsAscending xs → (s t : Stamp) → same s t ≡ false → Absent s xs → Absent t xs → Absent p (walk_from xs s) ⊎ Absent p (walk_from xs t)
unfolding walk_from
walks-apart p [] up s t ne sa ta = inl tt
walks-apart p (x ∷ later) up s t ne sa ta =
    by_cases (same x.parent s)
    (λ hs. by_cases (same x.parent t)
    (λ ht. absurd (true≢false (sym (same-from s t (sym (same-true x.parent s hs) ∙ same-true x.parent t ht)) ∙ ne)))
    (λ ht. rw (walk-hit x later s hs, walk-miss x later t ht) (one s t sa ta (walks-apart p later up.1 s t ne sa.1 ta.1) (walks-apart p later up.1 x.stamp t ta.0 (first-apart x later up) ta.1))))
    (λ hs. by_cases (same x.parent t)
    (λ ht. rw (walk-miss x later s hs, walk-hit x later t ht) (turn (one t s ta sa (turn (walks-apart p later up.1 s t ne sa.1 ta.1)) (walks-apart p later up.1 x.stamp s sa.0 (first-apart x later up) sa.1))))
    (λ ht. rw (walk-miss x later s hs, walk-miss x later t ht) (walks-apart p later up.1 s t ne sa.1 ta.1)))
  where
    turn : {A B : Type 0} → A ⊎ B → B ⊎ A
    turn (inl a) = inr a
    turn (inr b) = inl b

    one : (s t : Stamp) → Absent s (x ∷ later) → Absent t (x ∷ later) → Absent p (walk_from later s) ⊎ Absent p (walk_from later t) → Absent p (walk_from later x.stamp) ⊎ Absent p (walk_from later t) → Absent p (walk_from later s ++ x ∷ walk_from later x.stamp) ⊎ Absent p (walk_from later t)
    one s t sa ta (inr h) k = inr h
    one s t sa ta (inl h) (inr k) = inr k
    one s t sa ta (inl h) (inl k) =
        by_cases (same x.stamp p)
        (λ m. inr (subst (λ q. Absent q (walk_from later t)) (same-true x.stamp p m) (walk-each (λ y. same y.stamp x.stamp ≡ false) later t (first-apart x later up))))
        (λ m. inl (Each-append (λ y. same y.stamp p ≡ false) (walk_from later s) (x ∷ walk_from later x.stamp) h (m, k)))

-- ---- the theorem

next-rest : (e x : Insertion) (xs : List Insertion) → IsNext e (x ∷ xs) → IsNext e xs
next-rest e x xs n = record { parent_older = n.parent_older; fresh = n.fresh.1; childless = n.childless.1 }

-- e, the least, comes last of what hangs on its parent
place-least : (e : Insertion) (xs : List Insertion) → Each (λ y. before e.stamp y.stamp ≡ true) xs → IsNext e xs → (s : Stamp) → walk_from (e ∷ xs) s ≡ place_from s e (walk_from xs s)
place-least e xs up n s =
    by_cases (same e.parent s)
    (λ h. walk-hit e xs s h
    ∙ ap (λ l. walk_from xs s ++ e ∷ l) (walk-no_child xs e.stamp n.childless)
    ∙ sym (place-hit s e (walk_from xs s) (same-symm s e.parent ∙ h)
    ∙ skip-all e (walk_from xs s) (walk-each (λ y. before y.stamp e.stamp ≡ false) xs s (Each-weaker (λ y. before e.stamp y.stamp ≡ true) (λ y. before y.stamp e.stamp ≡ false) (λ y h. before-asym e.stamp y.stamp h) xs up))))
    (λ h. walk-miss e xs s h
    ∙ sym (place-miss s e (walk_from xs s) (same-symm s e.parent ∙ h)
    ∙ after-absent e (walk_from xs s) (walk-each (λ y. same y.stamp e.parent ≡ false) xs s (Each-weaker (λ y. before e.stamp y.stamp ≡ true) (λ y. same y.stamp e.parent ≡ false) (λ y h. before-apart e.parent y.stamp (before-trans e.parent e.stamp y.stamp n.parent_older h)) xs up))))

-- e stands in one place at most among what hangs on s and on x
after-parted : (e x : Insertion) (ps qs : List Insertion) → before x.stamp e.stamp ≡ true → same x.stamp e.parent ≡ false → Absent e.parent ps ⊎ Absent e.parent qs → after_parent e (ps ++ x ∷ qs) ≡ after_parent e ps ++ x ∷ after_parent e qs
after-parted e x ps qs old far (inl h) = after-append_right e ps (x ∷ qs) h ∙ rw (after-miss e x qs far, after-absent e ps h)
after-parted e x ps qs old far (inr h) = after-append_left e x ps qs old (far, h) ∙ ap (λ l. after_parent e ps ++ x ∷ l) (sym (after-absent e qs h))

-- below an insert that is older than e
place-older : (e x : Insertion) (later : List Insertion) → IsAscending (x ∷ later) → before x.stamp e.stamp ≡ true
    → ((t : Stamp) → Absent t later → walk_from (with_insert e later) t ≡ place_from t e (walk_from later t))
    → (s : Stamp) → Absent s (x ∷ later) → walk_from (x ∷ with_insert e later) s ≡ place_from s e (walk_from (x ∷ later) s)
place-older e x later up old rest s a =
    by_cases (same x.parent s)
    (λ hit. walk-hit x (with_insert e later) s hit
    ∙ rw (walk-hit x later s hit, rest s a.1, rest x.stamp apart)
    (by_cases (same s e.parent)
    (λ k. rw (place-hit s e A k, place-hit s e (A ++ x ∷ B) k, place-miss x.stamp e B (far k))
    (ap (λ l. skip e A ++ x ∷ l) (after-absent e B (none_of k)) ∙ sym (skip-append e x A B old)))
    (λ k. rw (place-miss s e A k, place-miss s e (A ++ x ∷ B) k)
    (by_cases (same x.stamp e.parent)
    (λ m. rw (place-hit x.stamp e B m, after-absent e A (not_in m))
    (sym (after-append_right e A (x ∷ B) (not_in m) ∙ ap (λ l. A ++ l) (after-hit e x B m))))
    (λ m. rw (place-miss x.stamp e B m)
    (sym (after-parted e x A B old m (walks-apart e.parent later up.1 s x.stamp (same-symm s x.stamp ∙ a.0) a.1 apart))))))))
    (λ miss. walk-miss x (with_insert e later) s miss ∙ rest s a.1 ∙ ap (place_from s e) (sym (walk-miss x later s miss)))
  where
    A : List Insertion
    A = walk_from later s

    B : List Insertion
    B = walk_from later x.stamp

    apart : Absent x.stamp later
    apart = first-apart x later up

    far : same s e.parent ≡ true → same x.stamp e.parent ≡ false
    far k = subst (λ q. same x.stamp q ≡ false) (same-true s e.parent k) a.0

    none_of : same s e.parent ≡ true → Absent e.parent B
    none_of k = subst (λ q. Absent q B) (same-true s e.parent k) (walk-each (λ y. same y.stamp s ≡ false) later x.stamp a.1)

    not_in : same x.stamp e.parent ≡ true → Absent e.parent A
    not_in m = subst (λ q. Absent q A) (same-true x.stamp e.parent m) (walk-each (λ y. same y.stamp x.stamp ≡ false) later s apart)

pub place-walk : (e : Insertion) (xs : List Insertion) → IsAscending xs → IsNext e xs → (s : Stamp) → Absent s xs → walk_from (with_insert e xs) s ≡ place_from s e (walk_from xs s)
unfolding with_insert
place-walk e [] up n s a = place-least e [] tt n s
place-walk e (x ∷ later) up n s a =
    by_cases (before x.stamp e.stamp)
    (λ old. rw (with-later e x later old) (place-older e x later up old (λ t b. place-walk e later up.1 (next-rest e x later n) t b) s a))
    (λ young. rw (with-here e x later young) (place-least e (x ∷ later) (older young) n s))
  where
    first : before x.stamp e.stamp ≡ false → before e.stamp x.stamp ≡ true
    first young = before-other x.stamp e.stamp young n.fresh.0

    older : before x.stamp e.stamp ≡ false → Each (λ y. before e.stamp y.stamp ≡ true) (x ∷ later)
    older young = (first young, Each-weaker (λ y. before x.stamp y.stamp ≡ true) (λ y. before e.stamp y.stamp ≡ true) (λ y h. before-trans e.stamp x.stamp y.stamp (first young) h) later up.0)
