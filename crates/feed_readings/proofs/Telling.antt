-- What two sets show, by what tells them apart and the walk of both.
use Rattle.std.proofs.Common.{◌≡◌, ◌∙◌, Bool, true, false, not, ◌&&◌, ◌||◌, cond, List, [], ◌∷◌, map, refl, sym, ap, ap₂, subst, ◌⊎◌, inl, inr}
use Rattle.std.specs.List.{filter}
use Rattle.std.specs.Prelude.{◌↔◌}
use Rattle.std.proofs.lemmas.Bool.{true≢false}
use Rattle.desk_ops.specs.declared.op.Op.{Op}
use Rattle.desk_ops.specs.declared.op.Op.TheVariants.{Delete, Insert, Set}
use Rattle.desk_ops.specs.declared.op.Stamp.{Stamp}
use Rattle.desk_ops.specs.Held.{IsUnforked, is_borne_in, live_inserts_of}
use Rattle.desk_ops.specs.Lists.{Among}
use Rattle.desk_ops.specs.Live.{IsClearOp, IsOfLiveInsert, insert_of}
use Rattle.desk_ops.specs.Op.{Insertion, IsLawful, stamp_of}
use Rattle.desk_ops.specs.OpSet.{OpSet, AllLawful, IsWithin, has_op, in_order, union}
use Rattle.desk_ops.specs.Shown.{deletes, is_deleted_in}
use Rattle.desk_ops.specs.Stamp.{head}
use Rattle.desk_ops.specs.Walk.{walk_of}
use Rattle.desk_ops.proofs.Bearers.{borne_op, op_borne}
use Rattle.desk_ops.proofs.Deletes.{deleted_by, deleted_from}
use Rattle.desk_ops.proofs.Ends.{among_held, held_among, op_from_live}
use Rattle.desk_ops.proofs.Lists.{each-among, each-from_among}
use Rattle.desk_ops.proofs.Parts.{one_unforked, unforked_clear, unforked_one}
use Rattle.desk_ops.proofs.Stamps.{by_cases, same-refl, same-true}
use Rattle.desk_ops.proofs.Tree.{walk-live}
use Rattle.desk_ops.proofs.Unions.{has_op-union}
use Rattle.desk_seq.specs.declared.Entry.{Entry}
use Rattle.desk_walk.specs.Following.{entries_of, entry_of}
use Rattle.feed_readings.specs.declared.parts.Parts.{Parts}
use Rattle.feed_readings.specs.Closed.{IsClosed, IsClosedPart, shows}
use Rattle.feed_readings.specs.Merged.{entered, in_common, shown_list}
use Rattle.feed_readings.specs.Parts.{AreParts, Deletes, base_shows, is_target, one_shows, other_shows}
use Rattle.feed_readings.proofs.Closed.{both_true, first_true, parts_show, rest_true}
use Rattle.feed_readings.proofs.Differing.{either_true, not_from, not_true, or_left, or_right, same_truth}
use Rattle.feed_readings.proofs.Sets.{has_common}

-- ---- deletes

deleted_back : (h : OpSet) → IsUnforked h → (s : Stamp) (op : Op) → has_op h op ≡ true → deletes s op ≡ true → is_deleted_in h s ≡ true
deleted_back h f s (Insert t p y) held d = absurd (true≢false (sym d))
deleted_back h f s (Delete t u) held d = deleted_by h s (t, subst (λ (v : Stamp). IsClearOp h (Delete t v)) (same-true u s d) (held, unforked_clear h f (Delete t u) held))
deleted_back h f s (Set t k v) held d = absurd (true≢false (sym d))

deleted_is : (h : OpSet) → IsUnforked h → (s : Stamp) → (is_deleted_in h s ≡ true) ↔ Deletes h s
deleted_is h f s = (
  λ e. let d = deleted_from h s e in (Delete d.0 s, d.1.0, same-refl s),
  λ d. deleted_back h f s d.0 d.1 d.2,
)

-- ---- a part of a set

part_unforked : (u h : OpSet) → IsUnforked u → IsWithin h u → IsUnforked h
part_unforked u h f w = one_unforked h (λ o p m n e. unforked_one u f o p (w o m) (w p n) e)

part_lawful : (u h : OpSet) → AllLawful u → IsWithin h u → AllLawful h
part_lawful u h l w = each-from_among IsLawful (in_order h) (λ o m. each-among IsLawful (in_order u) o l (among_held u o (w o (held_among h o m))))

-- of a set, a part and the rest, what the rest does not bear the part does
bears_rest : (u h g n : OpSet) → IsUnforked u → ((op : Op) → has_op u op ≡ true → (has_op h op ≡ true) ⊎ (has_op g op ≡ true)) → IsWithin h u → IsWithin g u
    → ((op : Op) → has_op n op ≡ (has_op g op && not (has_op h op))) → (s : Stamp) → is_borne_in u s ≡ true → is_borne_in h s ≡ not (is_borne_in n s)
bears_rest u h g n f each wh wg is s b = same_truth (is_borne_in h s) (not (is_borne_in n s)) there back
  where
    there : is_borne_in h s ≡ true → not (is_borne_in n s) ≡ true
    there e =
        not_from (is_borne_in n s) (λ c.
        let o = borne_op h s e in
        let p = borne_op n s c in
        let held : (has_op g p.0 && not (has_op h p.0)) ≡ true = sym (is p.0) ∙ p.1 in
        let same : o.0 ≡ p.0 = unforked_one u f o.0 p.0 (wh o.0 o.1) (wg p.0 (first_true (has_op g p.0) (not (has_op h p.0)) held)) (o.2 ∙ sym p.2) in
        true≢false (sym (ap (has_op h) (sym same) ∙ o.1) ∙ not_true (has_op h p.0) (rest_true (has_op g p.0) (not (has_op h p.0)) held)))

    by : (o : Op) → stamp_of o ≡ s → is_borne_in n s ≡ false → (has_op h o ≡ true) ⊎ (has_op g o ≡ true) → is_borne_in h s ≡ true
    by o at none (inl m) = op_borne h s (o, m, at)
    by o at none (inr m) =
        by_cases (has_op h o)
        (λ k. op_borne h s (o, k, at))
        (λ k. absurd (true≢false (sym (op_borne n s (o, is o ∙ both_true (has_op g o) (not (has_op h o)) m (ap not k), at)) ∙ none)))

    back : not (is_borne_in n s) ≡ true → is_borne_in h s ≡ true
    back e = let o = borne_op u s b in by o.0 o.2 (not_true (is_borne_in n s) e) (each o.0 o.1)

-- what a part deletes is deleted by what it has alone, or by what it has in common
deletes_rest : (u h g o c : OpSet) → IsUnforked u → IsWithin h u → ((op : Op) → has_op o op ≡ (has_op h op && not (has_op g op))) → ((op : Op) → has_op c op ≡ (has_op h op && has_op g op))
    → (s : Stamp) (by_both by_rest : Bool) → (by_both ≡ true) ↔ Deletes c s → (by_rest ≡ true) ↔ Deletes o s → is_deleted_in h s ≡ (is_deleted_in u s && (by_both || by_rest))
deletes_rest u h g o c f w is_o is_c s by_both by_rest both rest = same_truth (is_deleted_in h s) (is_deleted_in u s && (by_both || by_rest)) there back
  where
    own : IsUnforked h
    own = part_unforked u h f w

    split : (d : Op) → has_op h d ≡ true → deletes s d ≡ true → (by_both || by_rest) ≡ true
    split d m e =
        by_cases (has_op g d)
        (λ k. or_left by_both by_rest (both.1 (d, is_c d ∙ both_true (has_op h d) (has_op g d) m k, e)))
        (λ k. or_right by_both by_rest (rest.1 (d, is_o d ∙ both_true (has_op h d) (not (has_op g d)) m (ap not k), e)))

    there : is_deleted_in h s ≡ true → (is_deleted_in u s && (by_both || by_rest)) ≡ true
    there e =
        let d = (deleted_is h own s).0 e in
        both_true (is_deleted_in u s) (by_both || by_rest) (deleted_back u f s d.0 (w d.0 d.1) d.2) (split d.0 d.1 d.2)

    back_by : (by_both ≡ true) ⊎ (by_rest ≡ true) → is_deleted_in h s ≡ true
    back_by (inl k) = let d = both.0 k in deleted_back h own s d.0 (first_true (has_op h d.0) (has_op g d.0) (sym (is_c d.0) ∙ d.1)) d.2
    back_by (inr k) = let d = rest.0 k in deleted_back h own s d.0 (first_true (has_op h d.0) (not (has_op g d.0)) (sym (is_o d.0) ∙ d.1)) d.2

    back : (is_deleted_in u s && (by_both || by_rest)) ≡ true → is_deleted_in h s ≡ true
    back e = back_by (either_true by_both by_rest (rest_true (is_deleted_in u s) (by_both || by_rest) e))

filter_alike : (p q : Entry → Bool) (f : Insertion → Entry) (xs : List Insertion) → ((x : Insertion) → Among x xs → p (f x) ≡ q (f x)) → filter p (map f xs) ≡ filter q (map f xs)
filter_alike p q f [] h = refl
filter_alike p q f (x ∷ xs) h =
    ap₂ (λ (b : Bool) (l : List Entry). cond b (f x ∷ l) l) (h x (inl refl)) (filter_alike p q f xs (λ y m. h y (inr m)))

-- ---- two sets

and_swap : (a b : Bool) → (a && b) ≡ (b && a)
and_swap true true = refl
and_swap true false = refl
and_swap false true = refl
and_swap false false = refl

neither : (a b : Bool) → (not a && not b) ≡ not (a || b)
neither true b = refl
neither false b = refl

module _ {A : Type 0} (one other : OpSet) (parts : Parts A) (are : AreParts one other parts) (lawful : AllLawful (union one other)) where
  u : OpSet
  u = union one other

  one_in : IsWithin one (union one other)
  one_in op h = has_op-union one other op ∙ or_left (has_op one op) (has_op other op) h

  other_in : IsWithin other (union one other)
  other_in op h = has_op-union one other op ∙ or_right (has_op one op) (has_op other op) h

  each : (op : Op) → has_op (union one other) op ≡ true → (has_op one op ≡ true) ⊎ (has_op other op ≡ true)
  each op h = either_true (has_op one op) (has_op other op) (sym (has_op-union one other op) ∙ h)

  turned : (op : Op) → has_op (union one other) op ≡ true → (has_op other op ≡ true) ⊎ (has_op one op ≡ true)
  turned op h = either_true (has_op other op) (has_op one op) (or_swap (has_op one op) (has_op other op) ∙ (sym (has_op-union one other op) ∙ h))
    where
      or_swap : (a b : Bool) → (b || a) ≡ (a || b)
      or_swap true true = refl
      or_swap true false = refl
      or_swap false true = refl
      or_swap false false = refl

  common_in : IsWithin (in_common one other) (union one other)
  common_in op h = one_in op (first_true (has_op one op) (has_op other op) (sym (has_common one other op) ∙ h))

  bears_one : (s : Stamp) → is_borne_in (union one other) s ≡ true → is_borne_in one s ≡ not (is_borne_in parts.news s)
  bears_one = bears_rest (union one other) one other parts.news are.unforked each one_in other_in are.news

  bears_other : (s : Stamp) → is_borne_in (union one other) s ≡ true → is_borne_in other s ≡ not (is_borne_in parts.olds s)
  bears_other = bears_rest (union one other) other one parts.olds are.unforked turned other_in one_in are.olds

  bears_common : (s : Stamp) → is_borne_in (in_common one other) s ≡ (is_borne_in one s && is_borne_in other s)
  bears_common s = same_truth (is_borne_in (in_common one other) s) (is_borne_in one s && is_borne_in other s) there back
    where
      there : is_borne_in (in_common one other) s ≡ true → (is_borne_in one s && is_borne_in other s) ≡ true
      there e =
          let o = borne_op (in_common one other) s e in
          let held : (has_op one o.0 && has_op other o.0) ≡ true = sym (has_common one other o.0) ∙ o.1 in
          both_true (is_borne_in one s) (is_borne_in other s) (op_borne one s (o.0, first_true (has_op one o.0) (has_op other o.0) held, o.2)) (op_borne other s (o.0, rest_true (has_op one o.0) (has_op other o.0) held, o.2))

      back : (is_borne_in one s && is_borne_in other s) ≡ true → is_borne_in (in_common one other) s ≡ true
      back e =
          let o = borne_op one s (first_true (is_borne_in one s) (is_borne_in other s) e) in
          let p = borne_op other s (rest_true (is_borne_in one s) (is_borne_in other s) e) in
          let same : p.0 ≡ o.0 = unforked_one (union one other) are.unforked p.0 o.0 (other_in p.0 p.1) (one_in o.0 o.1) (p.2 ∙ sym o.2) in
          op_borne (in_common one other) s (o.0, has_common one other o.0 ∙ both_true (has_op one o.0) (has_op other o.0) o.1 (ap (has_op other) (sym same) ∙ p.1), o.2)

  -- ---- closed

  parent_borne : (x : Insertion) → Among x (live_inserts_of (union one other)) → (x.parent ≡ head) ⊎ (is_borne_in (union one other) x.parent ≡ true)
  parent_borne x m = by (op_from_live (union one other) lawful x m).1
    where
      by : (x.parent ≡ head) ⊎ IsOfLiveInsert (union one other) x.parent → (x.parent ≡ head) ⊎ (is_borne_in (union one other) x.parent ≡ true)
      by (inl e) = inl e
      by (inr y) = inr (op_borne (union one other) x.parent (insert_of y.0, (op_from_live (union one other) lawful y.0 y.1).0.0, y.2))

  closed_one : IsClosed (union one other) one
  closed_one x m held = by (parent_borne x m)
    where
      by : (x.parent ≡ head) ⊎ (is_borne_in (union one other) x.parent ≡ true) → (x.parent ≡ head) ⊎ (is_borne_in one x.parent ≡ true)
      by (inl e) = inl e
      by (inr b) = inr (bears_one x.parent b ∙ ap not (are.closed_one x held))

  closed_other : IsClosed (union one other) other
  closed_other x m held = by (parent_borne x m)
    where
      by : (x.parent ≡ head) ⊎ (is_borne_in (union one other) x.parent ≡ true) → (x.parent ≡ head) ⊎ (is_borne_in other x.parent ≡ true)
      by (inl e) = inl e
      by (inr b) = inr (bears_other x.parent b ∙ ap not (are.closed_other x held))

  closed_common : IsClosed (union one other) (in_common one other)
  closed_common x m held = by (closed_one x m (first_true (has_op one (insert_of x)) (has_op other (insert_of x)) both)) (closed_other x m (rest_true (has_op one (insert_of x)) (has_op other (insert_of x)) both))
    where
      both : (has_op one (insert_of x) && has_op other (insert_of x)) ≡ true
      both = sym (has_common one other (insert_of x)) ∙ held

      by : (x.parent ≡ head) ⊎ (is_borne_in one x.parent ≡ true) → (x.parent ≡ head) ⊎ (is_borne_in other x.parent ≡ true) → (x.parent ≡ head) ⊎ (is_borne_in (in_common one other) x.parent ≡ true)
      by (inl e) b = inl e
      by (inr a) (inl e) = inl e
      by (inr a) (inr b) = inr (bears_common x.parent ∙ both_true (is_borne_in one x.parent) (is_borne_in other x.parent) a b)

  as_part : (h : OpSet) → IsWithin h (union one other) → IsClosed (union one other) h → IsClosedPart (union one other) h
  as_part h w c = record { lawful = lawful; own = part_lawful (union one other) h lawful w; unforked = are.unforked; within = w; closed = c }

  walked_borne : (x : Insertion) → Among x (walk_of (union one other)) → is_borne_in (union one other) x.stamp ≡ true
  walked_borne x m = op_borne (union one other) x.stamp (insert_of x, (op_from_live (union one other) lawful x (walk-live (in_order (union one other)) x m)).0.0, refl)

  -- ---- deleted

  common_is : (op : Op) → has_op (in_common one other) op ≡ (has_op one op && has_op other op)
  common_is = has_common one other

  common_turned : (op : Op) → has_op (in_common one other) op ≡ (has_op other op && has_op one op)
  common_turned op = has_common one other op ∙ and_swap (has_op one op) (has_op other op)

  deleted_one : (s : Stamp) → is_deleted_in one s ≡ (is_deleted_in (union one other) s && (is_target parts.by_both s || is_target parts.by_olds s))
  deleted_one s = deletes_rest (union one other) one other parts.olds (in_common one other) are.unforked one_in are.olds common_is s (is_target parts.by_both s) (is_target parts.by_olds s) (are.by_both s) (are.by_olds s)

  deleted_other : (s : Stamp) → is_deleted_in other s ≡ (is_deleted_in (union one other) s && (is_target parts.by_both s || is_target parts.by_news s))
  deleted_other s = deletes_rest (union one other) other one parts.news (in_common one other) are.unforked other_in are.news common_turned s (is_target parts.by_both s) (is_target parts.by_news s) (are.by_both s) (are.by_news s)

  deleted_common : (s : Stamp) → is_deleted_in (in_common one other) s ≡ (is_deleted_in (union one other) s && is_target parts.by_both s)
  deleted_common s = same_truth (is_deleted_in (in_common one other) s) (is_deleted_in (union one other) s && is_target parts.by_both s) there back
    where
      own : IsUnforked (in_common one other)
      own = part_unforked (union one other) (in_common one other) are.unforked common_in

      there : is_deleted_in (in_common one other) s ≡ true → (is_deleted_in (union one other) s && is_target parts.by_both s) ≡ true
      there e =
          let d = (deleted_is (in_common one other) own s).0 e in
          both_true (is_deleted_in (union one other) s) (is_target parts.by_both s) (deleted_back (union one other) are.unforked s d.0 (common_in d.0 d.1) d.2) ((are.by_both s).1 d)

      back : (is_deleted_in (union one other) s && is_target parts.by_both s) ≡ true → is_deleted_in (in_common one other) s ≡ true
      back e = let d = (are.by_both s).0 (rest_true (is_deleted_in (union one other) s) (is_target parts.by_both s) e) in deleted_back (in_common one other) own s d.0 d.1 d.2

  -- ---- what is shown

  shows_as : (h : OpSet) (test : Entry → Bool) → IsWithin h (union one other) → IsClosed (union one other) h
      → ((x : Insertion) → Among x (walk_of (union one other)) → shows h (entry_of (union one other) x) ≡ test (entry_of (union one other) x)) → shown_list h ≡ map entered (filter test (entries_of (union one other)))
  shows_as h test w c same =
      parts_show (union one other) h (as_part h w c)
      ∙ ap (map entered) (filter_alike (shows h) test (entry_of (union one other)) (walk_of (union one other)) same)

  pub one_shown : shown_list one ≡ map entered (filter (one_shows parts) (entries_of (union one other)))
  one_shown =
      shows_as one (one_shows parts) one_in closed_one
      (λ x m. ap₂ (λ (a b : Bool). a && not b) (bears_one x.stamp (walked_borne x m)) (deleted_one x.stamp))

  pub other_shown : shown_list other ≡ map entered (filter (other_shows parts) (entries_of (union one other)))
  other_shown =
      shows_as other (other_shows parts) other_in closed_other
      (λ x m. ap₂ (λ (a b : Bool). a && not b) (bears_other x.stamp (walked_borne x m)) (deleted_other x.stamp))

  pub base_shown : shown_list (in_common one other) ≡ map entered (filter (base_shows parts) (entries_of (union one other)))
  base_shown =
      shows_as (in_common one other) (base_shows parts) common_in closed_common
      (λ x m.
      ap₂ (λ (a b : Bool). a && not b)
      (bears_common x.stamp ∙ ap₂ (λ (a b : Bool). a && b) (bears_one x.stamp (walked_borne x m)) (bears_other x.stamp (walked_borne x m)) ∙ neither (is_borne_in parts.news x.stamp) (is_borne_in parts.olds x.stamp))
      (deleted_common x.stamp))
