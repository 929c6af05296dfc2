-- What tells two sets apart, and what each of them shows by it.
use Rattle.std.proofs.Common.{◌≡◌, ◌∙◌, ℕ, suc, length, Bool, true, false, not, ◌&&◌, ◌||◌, cond, List, [], ◌∷◌, get_or, refl, sym, ap, subst, ◌⊎◌, inl, inr, All, arith}
use Rattle.std.specs.Prelude.{◌↔◌, ◌==◌, Option, Some}
use Rattle.std.specs.BTreeMap.{BTreeMap, get}
use Rattle.std.specs.Option.{is_some}
use Rattle.std.specs.List.{list_all, list_any}
use Rattle.std.specs.Cmp.Lexicographic.{slice_cmp}
use Rattle.std.specs.Ordering.{eq_by_cmp, is_eq, is_lt, nat_cmp, ordering_then}
use Rattle.std.specs.declared.cmp.Ordering.{Ordering}
use Rattle.std.specs.declared.cmp.Ordering.TheVariants.{Less, Equal, Greater}
use Rattle.std.proofs.lemmas.List.{nil_from_length}
use Rattle.std.proofs.lemmas.Bool.Decides.{nat_tests}
use Rattle.std.proofs.lemmas.Bool.{true≢false}
use Rattle.desk_held.specs.Passing.{IsMissing}
use Rattle.desk_ops.specs.declared.op.Op.{Op}
use Rattle.desk_ops.specs.declared.op.Stamp.{Stamp}
use Rattle.desk_ops.specs.Held.{IsUnforked, is_borne_in}
use Rattle.desk_ops.specs.Lists.{Among}
use Rattle.desk_ops.specs.Live.{insert_of}
use Rattle.desk_ops.specs.Op.{stamp_of}
use Rattle.desk_ops.specs.OpSet.{OpSet, IsWithin, has_op, in_order, no_ops, size, union, with_all}
use Rattle.desk_ops.specs.Order.{op_cmp, rest_of}
use Rattle.desk_ops.specs.Shown.{deletes}
use Rattle.desk_ops.specs.Stamp.{before, same, stamp_cmp}
use Rattle.desk_ops.specs.contracts.op.StampOrd.TheImpl as stamp_ord
use Rattle.desk_ops.proofs.Bearers.{borne_op, op_borne}
use Rattle.desk_ops.proofs.Deletes.{any_some, some_any}
use Rattle.desk_ops.proofs.Ends.{among_held}
use Rattle.desk_ops.proofs.Lists.{each-among}
use Rattle.desk_ops.proofs.Means.{IsOrdered, among-any, any-among, before-less, by_stamp, ordered}
use Rattle.desk_ops.proofs.OpSets.{length-in_order, none-held}
use Rattle.desk_ops.proofs.Parts.{one_unforked, unforked_one}
use Rattle.desk_ops.proofs.Stamps.{before-irrefl, before-trans, by_cases, stamp_tied}
use Rattle.desk_ops.proofs.Unions.{has_op-union, has_op-with_all}
use Rattle.feed_readings.specs.declared.parts.Beside.{Beside}
use Rattle.feed_readings.specs.declared.parts.Parts.{Parts}
use Rattle.feed_readings.specs.Merged.{in_common}
use Rattle.feed_readings.specs.Parts.{AreNews, AreParts, AreShared, AreTargets, Deletes, IsBeside, deletes_held, hangs_on, is_target}
use Rattle.feed_readings.proofs.Closed.{both_true, first_true, rest_true}
use Rattle.feed_readings.proofs.Placed.{order_same}
use Rattle.feed_readings.proofs.Sets.{all_from, has_common}

-- ---- truths

pub same_truth : (a b : Bool) → (a ≡ true → b ≡ true) → (b ≡ true → a ≡ true) → a ≡ b
same_truth true b h k = sym (h refl)
same_truth false true h k = absurd (true≢false (sym (k refl)))
same_truth false false h k = refl

pub either_true : (a b : Bool) → (a || b) ≡ true → (a ≡ true) ⊎ (b ≡ true)
either_true true b e = inl refl
either_true false b e = inr e

pub or_left : (a b : Bool) → a ≡ true → (a || b) ≡ true
or_left true b e = refl
or_left false b e = absurd (true≢false (sym e))

pub or_right : (a b : Bool) → b ≡ true → (a || b) ≡ true
or_right true b e = refl
or_right false b e = e

pub not_true : (a : Bool) → not a ≡ true → a ≡ false
not_true true e = absurd (true≢false (sym e))
not_true false e = refl

pub not_from : (a : Bool) → (a ≡ true → ⊥) → not a ≡ true
not_from true h = absurd (h refl)
not_from false h = refl

or_none : (b c : Bool) → c ≡ false → (b || c) ≡ b
or_none true c e = refl
or_none false c e = e

-- ---- the set of a list

pub has_list : (ops : List Op) (q : Op) → has_op (with_all no_ops ops) q ≡ list_any (eq_by_cmp op_cmp q) ops
has_list ops q = has_op-with_all no_ops ops q ∙ or_none (list_any (eq_by_cmp op_cmp q) ops) (has_op no_ops q) (none-held q)

pub held_list : (ops : List Op) (q : Op) → has_op (with_all no_ops ops) q ≡ true → Among q ops
held_list ops q h = any-among q ops (sym (has_list ops q) ∙ h)

pub list_held : (ops : List Op) (q : Op) → Among q ops → has_op (with_all no_ops ops) q ≡ true
list_held ops q m = has_list ops q ∙ among-any q ops m

none_of : (p : Op → Bool) (ops : List Op) → list_any p ops ≡ false → (q : Op) → Among q ops → p q ≡ false
none_of p ops e q m = by_cases (p q) (λ h. absurd (true≢false (sym (some_any p ops q m h) ∙ e))) (λ h. h)

all_among : (P : Op → Type 0) (ops : List Op) → All P ops → (q : Op) → Among q ops → P q
all_among P [] h q m = absurd m
all_among P (x ∷ ops) h q (inl e) = subst P e (h 0 x (omega arith))
all_among P (x ∷ ops) h q (inr m) = all_among P ops (λ k d lt. h (suc k) d (omega (arith, lt))) q m

-- what a list has that a set has not
missing_held : (set : OpSet) (ops news : List Op) → IsMissing set ops news → (q : Op) → has_op (with_all no_ops news) q ≡ (has_op (with_all no_ops ops) q && not (has_op set q))
missing_held set ops news m q =
    same_truth (has_op (with_all no_ops news) q) (has_op (with_all no_ops ops) q && not (has_op set q)) there back
  where
    same_all : (list_any (eq_by_cmp op_cmp q) news || has_op set q) ≡ (list_any (eq_by_cmp op_cmp q) ops || has_op set q)
    same_all = sym (has_op-with_all set news q) ∙ ap (λ (s : OpSet). has_op s q) m.whole ∙ has_op-with_all set ops q

    there : has_op (with_all no_ops news) q ≡ true → (has_op (with_all no_ops ops) q && not (has_op set q)) ≡ true
    there h =
        let absent : has_op set q ≡ false = all_among (λ op. has_op set op ≡ false) news m.none q (held_list news q h) in
        let in_ops : (list_any (eq_by_cmp op_cmp q) ops || has_op set q) ≡ true = sym same_all ∙ or_left (list_any (eq_by_cmp op_cmp q) news) (has_op set q) (sym (has_list news q) ∙ h) in
        both_true (has_op (with_all no_ops ops) q) (not (has_op set q)) (has_list ops q ∙ sym (or_none (list_any (eq_by_cmp op_cmp q) ops) (has_op set q) absent) ∙ in_ops) (ap not absent)

    back : (has_op (with_all no_ops ops) q && not (has_op set q)) ≡ true → has_op (with_all no_ops news) q ≡ true
    back h =
        let absent : has_op set q ≡ false = not_true (has_op set q) (rest_true (has_op (with_all no_ops ops) q) (not (has_op set q)) h) in
        let in_ops : list_any (eq_by_cmp op_cmp q) ops ≡ true = sym (has_list ops q) ∙ first_true (has_op (with_all no_ops ops) q) (not (has_op set q)) h in
        has_list news q ∙ sym (or_none (list_any (eq_by_cmp op_cmp q) news) (has_op set q) absent) ∙ same_all ∙ or_left (list_any (eq_by_cmp op_cmp q) ops) (has_op set q) in_ops

-- ---- targets

pub any_deletes : (set : OpSet) (s : Stamp) (ops : List Op) → list_any (deletes_held set s) ops ≡ true → (op : Op) × Among op ops × ((has_op set op ≡ true) × (deletes s op ≡ true))
any_deletes set s ops e =
    let r = any_some (deletes_held set s) ops e in
    (r.0, r.1, (rest_true (deletes s r.0) (has_op set r.0) r.2, first_true (deletes s r.0) (has_op set r.0) r.2))

pub deletes_any : (set : OpSet) (s : Stamp) (ops : List Op) (op : Op) → Among op ops → has_op set op ≡ true → deletes s op ≡ true → list_any (deletes_held set s) ops ≡ true
deletes_any set s ops op m held d = some_any (deletes_held set s) ops op m (both_true (deletes s op) (has_op set op) d held)

own_targets : (ops : List Op) (targets : BTreeMap Stamp (Unit {0})) → AreTargets ops targets → (s : Stamp) → (is_target targets s ≡ true) ↔ Deletes (with_all no_ops ops) s
own_targets ops targets are s = (
  λ e. let r = any_some (deletes s) ops (sym (are s) ∙ e) in (r.0, list_held ops r.0 r.1, r.2),
  λ d. are s ∙ some_any (deletes s) ops d.0 (held_list ops d.0 d.1) d.2,
)

shared_targets : (ones : List Op) (other : OpSet) (targets : BTreeMap Stamp (Unit {0})) → AreShared other ones targets → (s : Stamp) → (is_target targets s ≡ true) ↔ Deletes (in_common (with_all no_ops ones) other) s
shared_targets ones other targets are s = (
  λ e.
      let r = any_deletes other s ones (sym (are s) ∙ e) in
      (r.0, has_common (with_all no_ops ones) other r.0 ∙ both_true (has_op (with_all no_ops ones) r.0) (has_op other r.0) (list_held ones r.0 r.1) r.2.0, r.2.1),
  λ d.
      let held = sym (has_common (with_all no_ops ones) other d.0) ∙ d.1 in
      are s ∙ deletes_any other s ones d.0 (held_list ones d.0 (first_true (has_op (with_all no_ops ones) d.0) (has_op other d.0) held)) (rest_true (has_op (with_all no_ops ones) d.0) (has_op other d.0) held) d.2,
)

-- ---- no stamp of the union is forked

module _ (one other : OpSet) (unforked_here : IsUnforked one) (unforked_there : IsUnforked other)
    (fresh : (op : Op) → has_op other op ≡ true → has_op one op ≡ false → is_borne_in one (stamp_of op) ≡ false) where
  of_both : (o p : Op) → has_op one o ≡ true → has_op other p ≡ true → stamp_of o ≡ stamp_of p → o ≡ p
  of_both o p m n e =
      by_cases (has_op one p)
      (λ k. unforked_one one unforked_here o p m k e)
      (λ k. absurd (true≢false (sym (op_borne one (stamp_of p) (o, m, e)) ∙ fresh p n k)))

  one_of_each : (o p : Op) → has_op (union one other) o ≡ true → has_op (union one other) p ≡ true → stamp_of o ≡ stamp_of p → o ≡ p
  one_of_each o p m n e = by (either_true (has_op one o) (has_op other o) (sym (has_op-union one other o) ∙ m)) (either_true (has_op one p) (has_op other p) (sym (has_op-union one other p) ∙ n))
    where
      by : (has_op one o ≡ true) ⊎ (has_op other o ≡ true) → (has_op one p ≡ true) ⊎ (has_op other p ≡ true) → o ≡ p
      by (inl a) (inl b) = unforked_one one unforked_here o p a b e
      by (inl a) (inr b) = of_both o p a b e
      by (inr a) (inl b) = sym (of_both p o b a (sym e))
      by (inr a) (inr b) = unforked_one other unforked_there o p a b e

  pub union_unforked : IsUnforked (union one other)
  union_unforked = one_unforked (union one other) one_of_each

-- ---- the parts of two lists

pub parts_are : {A : Type 0} (ones others news : List Op) (olds : Beside A) (parts : Parts A) → AreNews (with_all no_ops ones) others news → IsBeside (with_all no_ops others) ones olds
    → parts.news ≡ with_all no_ops news → parts.olds ≡ with_all no_ops olds.alone.items → list_any (hangs_on parts.news) ones ≡ false → list_any (hangs_on parts.olds) others ≡ false
    → AreTargets news parts.by_news → AreTargets olds.alone.items parts.by_olds → parts.by_both ≡ olds.shared → AreParts (with_all no_ops ones) (with_all no_ops others) parts
parts_are ones others news olds parts are beside is_news is_olds free_ones free_others by_news by_olds by_both = record {
  unforked = union_unforked one other are.unforked beside.unforked fresh;
  news = λ op. ap (λ (s : OpSet). has_op s op) is_news ∙ missing_held one others news are.missing op;
  olds = λ op. ap (λ (s : OpSet). has_op s op) is_olds ∙ missing_held other ones olds.alone.items beside.missing op;
  closed_one = λ x h. none_of (hangs_on parts.news) ones free_ones (insert_of x) (held_list ones (insert_of x) h);
  closed_other = λ x h. none_of (hangs_on parts.olds) others free_others (insert_of x) (held_list others (insert_of x) h);
  by_news = λ s. subst (λ (set : OpSet). (is_target parts.by_news s ≡ true) ↔ Deletes set s) (sym is_news) (own_targets news parts.by_news by_news s);
  by_olds = λ s. subst (λ (set : OpSet). (is_target parts.by_olds s ≡ true) ↔ Deletes set s) (sym is_olds) (own_targets olds.alone.items parts.by_olds by_olds s);
  by_both = λ s. subst (λ (targets : BTreeMap Stamp (Unit {0})). (is_target targets s ≡ true) ↔ Deletes (in_common one other) s) (sym by_both) (shared_targets ones other olds.shared beside.shared s);
}
  where
    one : OpSet
    one = with_all no_ops ones

    other : OpSet
    other = with_all no_ops others

    fresh : (op : Op) → has_op other op ≡ true → has_op one op ≡ false → is_borne_in one (stamp_of op) ≡ false
    fresh op there here =
        none_of (λ op. is_borne_in one (stamp_of op)) news are.fresh op
        (held_list news op (missing_held one others news are.missing op ∙ both_true (has_op other op) (not (has_op one op)) there (ap not here)))

-- ---- what comes before all

not_later : (o : Op) (ops : List Op) → IsOrdered (o ∷ ops) → (q : Op) → Among q (o ∷ ops) → before (stamp_of q) (stamp_of o) ≡ true → ⊥
not_later o ops up q (inl e) b = before-irrefl (stamp_of o) (subst (λ (p : Op). before (stamp_of p) (stamp_of o) ≡ true) (sym e) b)
not_later o ops up q (inr m) b = by (stamp_cmp (stamp_of o) (stamp_of q)) refl (sym (by_stamp o q) ∙ each-among (λ p. op_cmp o p ≡ Less) ops q up.0 m)
  where
    by : (r : Ordering) → stamp_cmp (stamp_of o) (stamp_of q) ≡ r → ordering_then r (slice_cmp nat_cmp (rest_of o) (rest_of q)) ≡ Less → ⊥
    by Less e l = before-irrefl (stamp_of o) (before-trans (stamp_of o) (stamp_of q) (stamp_of o) (before-less (stamp_of o) (stamp_of q) e) b)
    by Equal e l = before-irrefl (stamp_of o) (subst (λ (s : Stamp). before s (stamp_of o) ≡ true) (sym (stamp_tied (stamp_of o) (stamp_of q) e)) b)
    by Greater e l = absurd (true≢false (sym (ap is_lt l)))

pub unborne_before : (h : OpSet) (first : Op) (s : Stamp) → first ≡ get_or (in_order h) 0 first → before s (stamp_of first) ≡ true → is_borne_in h s ≡ false
unborne_before h first s is b = by_cases (is_borne_in h s) (λ e. absurd (none (borne_op h s e))) (λ e. e)
  where
    at : (ops : List Op) → IsOrdered ops → first ≡ get_or ops 0 first → (q : Op) → Among q ops → stamp_of q ≡ s → ⊥
    at [] up is q m e = m
    at (o ∷ ops) up is q m e = not_later o ops up q m (subst (λ (t : Stamp). before t (stamp_of o) ≡ true) (sym e) (subst (λ (p : Op). before s (stamp_of p) ≡ true) is b))

    none : ((o : Op) × (has_op h o ≡ true) × (stamp_of o ≡ s)) → ⊥
    none o = at (in_order h) (ordered h) is o.0 (among_held h o.0 o.1) o.2

pub empty_has_none : (h : OpSet) → size h ≡ 0 → (q : Op) → has_op h q ≡ true → ⊥
empty_has_none h e q m = subst (Among q) (nil_from_length (in_order h) (length-in_order h ∙ e)) (among_held h q m)

pub unborne_empty : (h : OpSet) (s : Stamp) → size h ≡ 0 → is_borne_in h s ≡ false
unborne_empty h s e = by_cases (is_borne_in h s) (λ b. let o = borne_op h s b in absurd (empty_has_none h e o.0 o.1)) (λ b. b)

-- ---- one target more

some_or : (b : Bool) (o : Option (Unit {0})) → is_some (cond b (Some tt) o) ≡ (b || is_some o)
some_or true o = refl
some_or false o = refl

pub target_put : (old new : BTreeMap Stamp (Unit {0})) (t : Stamp) → ((q : Stamp) → get (stamp_ord.ghosts).cmp new q ≡ cond (is_eq ((stamp_ord.ghosts).cmp t q)) (Some tt) (get (stamp_ord.ghosts).cmp old q))
    → (q : Stamp) → is_target new q ≡ (same t q || is_target old q)
target_put old new t updates q =
    ap is_some (updates q)
    ∙ some_or (is_eq ((stamp_ord.ghosts).cmp t q)) (get (stamp_ord.ghosts).cmp old q)
    ∙ ap (λ (b : Bool). b || is_target old q) (order_same t q)

-- ---- one of two sets that holds the other

pub empty_within : (one other : OpSet) → size one ≡ 0 → IsWithin one other
empty_within one other e q h = absurd (empty_has_none one e q h)

pub listed_within : (set : OpSet) (ops : List Op) → list_all (has_op set) ops ≡ true → IsWithin (with_all no_ops ops) set
listed_within set ops e q h = all_from (has_op set) ops e q (held_list ops q h)

pub none_missing : (set : OpSet) (ops news : List Op) → IsMissing set ops news → news ≡ [] → IsWithin (with_all no_ops ops) set
none_missing set ops news m none q h =
    by_cases (has_op set q) (λ k. k)
    (λ k.
    let held : has_op (with_all no_ops news) q ≡ true = missing_held set ops news m q ∙ both_true (has_op (with_all no_ops ops) q) (not (has_op set q)) h (ap not k) in
    absurd (subst (Among q) none (held_list news q held)))

pub none_left : {A : Type 0} (len : ℕ) (xs : List A) (b : Bool) → len ≡ length xs → b ≡ (len == 0) → b ≡ true → xs ≡ []
none_left len xs b is e empty =
    let none : len ≡ 0 = grind (arith, nat_tests) in
    nil_from_length xs (sym is ∙ none)
