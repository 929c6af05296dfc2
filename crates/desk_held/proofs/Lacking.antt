-- What a set lacks of a list.
use Rattle.std.proofs.Common.{◌≡◌, ℕ, suc, ◌+◌, ◌<◌, ◌≤◌, ◌||◌, inl, Bool, true, false, not, cond, List, [], ◌∷◌, ◌++◌, length, take, get_or, refl, sym, ap, subst, ◌∙◌, arith}
use Rattle.std.specs.Prelude.{T, All}
use Rattle.std.specs.List.{list_any, list_all, dedup, dedup_from}
use Rattle.std.specs.List.Sorted.{IsStrictlySortedBy}
use Rattle.std.specs.Ordering.{is_lt, eq_by_cmp}
use Rattle.std.specs.declared.cmp.Ordering.TheVariants.{Less}
use Rattle.std.specs.FinMap as fin
use Rattle.std.specs.FinMap.Entries.{below_all}
use Rattle.std.proofs.lemmas.Bool.{true≢false, and_from, not-true}
use Rattle.std.proofs.lemmas.List.{append-nil}
use Rattle.std.proofs.lemmas.List.Elements.{filter_more}
use Rattle.std.proofs.lemmas.List.Folds.{list_all_more}
use Rattle.std.proofs.Math.Bool.{or-true}
use Rattle.desk_ops.specs.declared.op.Op.{Op}
use Rattle.desk_ops.specs.Op.{IsLawful}
use Rattle.desk_ops.specs.Order.{op_cmp}
use Rattle.desk_ops.specs.OrderLaws.{op_antisymmetric}
use Rattle.desk_ops.specs.OpSet.{OpSet, no_ops, has_op, with_op, with_all, in_order, is_rising, entries_of, AllLawful}
use Rattle.desk_ops.specs.Lists.{Among}
use Rattle.desk_ops.proofs.Lists.{Each, each-among, each-from_among, among-filter, each-at}
use Rattle.desk_ops.proofs.Means.{IsOrdered, among-any, any-among}
use Rattle.desk_ops.proofs.Bearers.{ordered_rising}
use Rattle.desk_ops.proofs.Stamps.{by_cases, is_equal}
use Rattle.desk_ops.proofs.Tree.{filter-hit, filter-miss}
use Rattle.desk_ops.proofs.Unions.{same-set, has_op-with_all}
use Rattle.desk_ops.proofs.Joined.{lawful-with_op}
use Rattle.desk_ops.proofs.OpSets.{with_op-known, none-held}
use Rattle.desk_ops.proofs.Arrive.{ordered_filter}
use Rattle.desk_held.specs.Passing.{missing_of, IsMissing}

same-op : (o p : Op) → eq_by_cmp op_cmp o p ≡ true → o ≡ p
same-op o p e = op_antisymmetric o p (is_equal (op_cmp o p) e)

-- ---- one operation of the list more

module _ (h : OpSet) (ops : List Op) (i : ℕ) (o : Op) (lt : i < length ops) (at : o ≡ get_or ops i o) where
  lacks : Op → Bool
  lacks op = not (has_op h op)

  missing-held : has_op h o ≡ true → missing_of h (take (i + 1) ops) ≡ missing_of h (take i ops)
  unfolding lacks
  missing-held e = filter_more lacks ops i o lt
      ∙ ap (λ b. missing_of h (take i ops) ++ cond b (get_or ops i o ∷ []) []) (ap lacks (sym at) ∙ ap not e) ∙ append-nil (missing_of h (take i ops))

  missing-new : has_op h o ≡ false → missing_of h (take (i + 1) ops) ≡ missing_of h (take i ops) ++ o ∷ []
  unfolding lacks
  missing-new e = filter_more lacks ops i o lt
      ∙ ap (λ b. missing_of h (take i ops) ++ cond b (get_or ops i o ∷ []) []) (ap lacks (sym at) ∙ ap not e) ∙ ap (λ (x : Op). missing_of h (take i ops) ++ x ∷ []) (sym at)

  pub missing-more : (b : Bool) (before after : List Op) → b ≡ has_op h o → before ≡ missing_of h (take i ops) → after ≡ cond b before (before ++ o ∷ []) → after ≡ missing_of h (take (i + 1) ops)
  missing-more true before after e f is = is ∙ f ∙ sym (missing-held (sym e))
  missing-more false before after e f is = is ∙ ap (λ (l : List Op). l ++ o ∷ []) f ∙ sym (missing-new (sym e))

  pub all-held-more : list_all (has_op h) (take i ops) ≡ true → has_op h o ≡ true → list_all (has_op h) (take (i + 1) ops) ≡ true
  all-held-more before e = list_all_more (has_op h) ops i o lt ∙ and_from (list_all (has_op h) (take i ops)) (has_op h (get_or ops i o)) before (ap (has_op h) (sym at) ∙ e)

-- ---- of no operations

pub missing-of_none : (h : OpSet) (ops : List Op) → h ≡ no_ops → missing_of h ops ≡ ops
missing-of_none h [] e = refl
missing-of_none h (o ∷ ops) e = filter-hit (λ op. not (has_op h op)) o ops (ap not (ap (λ (s : OpSet). has_op s o) e ∙ none-held o)) ∙ ap (λ (l : List Op). o ∷ l) (missing-of_none h ops e)

-- ---- of a list that rises

kept-any : (h : OpSet) (q : Op) (ops : List Op) → has_op h q ≡ false → list_any (eq_by_cmp op_cmp q) (missing_of h ops) ≡ list_any (eq_by_cmp op_cmp q) ops
kept-any h q [] none = refl
kept-any h q (o ∷ ops) none =
    by_cases (has_op h o)
    (λ e. ap (list_any (eq_by_cmp op_cmp q)) (filter-miss (λ op. not (has_op h op)) o ops (ap not e)) ∙ kept-any h q ops none
    ∙ sym (ap (λ b. b || list_any (eq_by_cmp op_cmp q) ops) (other e)))
    (λ e. ap (list_any (eq_by_cmp op_cmp q)) (filter-hit (λ op. not (has_op h op)) o ops (ap not e)) ∙ ap (λ b. eq_by_cmp op_cmp q o || b) (kept-any h q ops none))
  where
    other : has_op h o ≡ true → eq_by_cmp op_cmp q o ≡ false
    other e = by_cases (eq_by_cmp op_cmp q o) (λ k. absurd (true≢false (sym e ∙ ap (has_op h) (sym (same-op q o k)) ∙ none))) (λ k. k)

missing-whole : (h : OpSet) (ops : List Op) → with_all h (missing_of h ops) ≡ with_all h ops
missing-whole h ops = same-set (with_all h (missing_of h ops)) (with_all h ops)
    (λ q. has_op-with_all h (missing_of h ops) q ∙ by_cases (has_op h q)
    (λ e. ap (λ b. list_any (eq_by_cmp op_cmp q) (missing_of h ops) || b) e ∙ or-true (list_any (eq_by_cmp op_cmp q) (missing_of h ops)) ∙ sym (ap (λ b. list_any (eq_by_cmp op_cmp q) ops || b) e ∙ or-true (list_any (eq_by_cmp op_cmp q) ops)))
    (λ e. ap (λ b. b || has_op h q) (kept-any h q ops e))
    ∙ sym (has_op-with_all h ops q))

pub all-of-each : (P : Op → Type 0) (ops : List Op) → Each P ops → All P ops
all-of-each P ops each i d lt = each-at P ops i d each lt

pub each-of-all : (P : Op → Type 0) (ops : List Op) → All P ops → Each P ops
each-of-all P [] a = tt
each-of-all P (o ∷ ops) a = (a 0 o (omega arith), each-of-all P ops (λ k d l. a (suc k) d (omega (arith, l))))

missing-none : (h : OpSet) (ops : List Op) → Each (λ op. has_op h op ≡ false) (missing_of h ops)
missing-none h ops = each-from_among (λ op. has_op h op ≡ false) (missing_of h ops) (λ x m. not-true (has_op h x) (among-filter (λ op. not (has_op h op)) ops x m).1)

below-each : (o : Op) (ops : List Op) → Each (λ q. op_cmp o q ≡ Less) ops → below_all op_cmp o (entries_of ops) ≡ true
below-each o [] each = refl
below-each o (p ∷ ops) each = and_from (is_lt (op_cmp o p)) (below_all op_cmp o (entries_of ops)) (ap is_lt each.0) (below-each o ops each.1)

rising-ordered : (ops : List Op) → IsOrdered ops → is_rising ops ≡ true
rising-ordered [] up = refl
rising-ordered (o ∷ ops) up = and_from (below_all op_cmp o (entries_of ops)) (is_rising ops) (below-each o ops up.0) (rising-ordered ops up.1)

pub rising-from_ordered : (ops : List Op) → IsOrdered ops → T (is_rising ops)
rising-from_ordered ops up = subst T (sym (rising-ordered ops up)) tt

missing-few : (h : OpSet) (ops : List Op) → length (missing_of h ops) ≤ length ops
missing-few h [] = omega arith
missing-few h (o ∷ ops) =
    let rest : length (missing_of h ops) ≤ length ops = missing-few h ops in
    by_cases (has_op h o)
    (λ e. let n : length (missing_of h (o ∷ ops)) ≡ length (missing_of h ops) = ap length (filter-miss (λ op. not (has_op h op)) o ops (ap not e)) in omega (arith, n, rest))
    (λ e. let n : length (missing_of h (o ∷ ops)) ≡ suc (length (missing_of h ops)) = ap length (filter-hit (λ op. not (has_op h op)) o ops (ap not e)) in omega (arith, n, rest))

pub missing-of_rising : (h : OpSet) (ops : List Op) → T (is_rising ops) → IsMissing h ops (missing_of h ops)
missing-of_rising h ops rising = record {
  whole = missing-whole h ops;
  none = all-of-each (λ op. has_op h op ≡ false) (missing_of h ops) (missing-none h ops);
  rising = rising-from_ordered (missing_of h ops) (ordered_filter (λ op. not (has_op h op)) ops (ordered_rising ops rising));
  few = missing-few h ops;
}

-- ---- lawful operations

pub lawful_all : (h : OpSet) (os : List Op) → AllLawful h → Each IsLawful os → AllLawful (with_all h os)
lawful_all h [] l each = l
lawful_all h (o ∷ os) l each = lawful_all (with_op h o) os (lawful-with_op h o l each.0) each.1

-- what makes a set of lawful operations is lawful
pub listed-lawful : (h k : OpSet) (os ps : List Op) → AllLawful k → All IsLawful ps → with_all h os ≡ with_all k ps → All IsLawful os
listed-lawful h k os ps l all e = all-of-each IsLawful os (each-from_among IsLawful os (λ x m. each-among IsLawful (in_order (with_all k ps)) x (lawful_all k ps l (each-of-all IsLawful ps all)) (any-among x (in_order (with_all k ps)) (sym (fin.contains_key-keys (with_all k ps) x) ∙ in-set x m))))
  where
    in-set : (x : Op) → Among x os → has_op (with_all k ps) x ≡ true
    in-set x m = ap (λ (s : OpSet). has_op s x) (sym e) ∙ has_op-with_all h os x ∙ ap (λ b. b || has_op h x) (among-any x os m)

-- ---- a list in order

module _ (same : Op → Op → Bool) (tie : (x y : Op) → same x y ≡ eq_by_cmp op_cmp x y) where
  dedup-from : (h : OpSet) (x : Op) (ops : List Op) → with_all h (dedup_from same x ops) ≡ with_all h (x ∷ ops)
  dedup-from h x [] = refl
  dedup-from h x (y ∷ ops) =
      by_cases (same y x)
      (λ e. ap (λ b. with_all h (cond b (dedup_from same x ops) (x ∷ dedup_from same y ops))) e ∙ dedup-from h x ops ∙ ap (λ g. with_all g ops) (twice (same-op y x (sym (tie y x) ∙ e))))
      (λ e. ap (λ b. with_all h (cond b (dedup_from same x ops) (x ∷ dedup_from same y ops))) e ∙ dedup-from (with_op h x) y ops)
    where
      own : has_op (with_op h x) x ≡ true
      own = has_op-with_all h (x ∷ []) x ∙ ap (λ b. b || has_op h x) (among-any x (x ∷ []) (inl refl))

      twice : y ≡ x → with_op h x ≡ with_op (with_op h x) y
      twice e = sym (with_op-known (with_op h x) x own) ∙ ap (with_op (with_op h x)) (sym e)

  pub dedup-whole : (h : OpSet) (ops : List Op) → with_all h (dedup same ops) ≡ with_all h ops
  dedup-whole h [] = refl
  dedup-whole h (o ∷ ops) = dedup-from h o ops

pub ordered-strictly : (ops : List Op) → IsStrictlySortedBy op_cmp ops → IsOrdered ops
unfolding IsStrictlySortedBy
ordered-strictly [] s = tt
ordered-strictly (o ∷ ops) s = (s.0, ordered-strictly ops s.1)
