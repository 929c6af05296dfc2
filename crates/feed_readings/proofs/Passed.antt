-- Two lists that were passed side by side, an operation at a time, and what each has that the other has not.
use Rattle.std.proofs.Common.{◌≡◌, ◌∙◌, ℕ, ◌+◌, ◌<◌, length, take, get_or, Bool, true, false, not, ◌||◌, cond, List, [], ◌∷◌, ◌++◌, refl, sym, ap, subst, ◌⊎◌, inl, inr, All}
use Rattle.std.specs.Prelude.{◌↔◌, T}
use Rattle.std.specs.BTreeMap.{BTreeMap}
use Rattle.std.specs.List.{filter, list_any}
use Rattle.std.specs.Ordering.{eq_by_cmp, ordering_then, nat_cmp}
use Rattle.std.specs.Cmp.Lexicographic.{slice_cmp}
use Rattle.std.specs.declared.cmp.Ordering.{Ordering}
use Rattle.std.specs.declared.cmp.Ordering.TheVariants.{Less}
use Rattle.std.proofs.lemmas.Bool.{true≢false}
use Rattle.std.proofs.lemmas.List.{append-nil, take_more}
use Rattle.std.proofs.lemmas.List.Elements.{All-filter, filter-append}
use Rattle.desk_held.specs.Passing.{IsMissing, missing_of}
use Rattle.desk_held.proofs.Lacking.{missing-of_rising, rising-from_ordered}
use Rattle.desk_ops.specs.contracts.op.OpPartialEq.TheImpl as op_eq
use Rattle.desk_ops.specs.declared.op.Op.{Op}
use Rattle.desk_ops.specs.declared.op.Stamp.{Stamp}
use Rattle.desk_ops.specs.Held.{IsUnforked, is_borne_in}
use Rattle.desk_ops.specs.Lists.{Among}
use Rattle.desk_ops.specs.Op.{IsLawful, stamp_of}
use Rattle.desk_ops.specs.OpSet.{OpSet, has_op, is_rising, no_ops, with_all}
use Rattle.desk_ops.specs.Order.{op_cmp, rest_of}
use Rattle.desk_ops.specs.OrderLaws.{op_antisymmetric, op_tie}
use Rattle.desk_ops.specs.Shown.{deletes}
use Rattle.desk_ops.specs.Stamp.{before, same, stamp_cmp}
use Rattle.desk_ops.proofs.Bearers.{borne_op, ordered_rising}
use Rattle.desk_ops.proofs.Deletes.{any_some}
use Rattle.desk_ops.proofs.Lists.{Each-append, among-filter}
use Rattle.desk_ops.proofs.Means.{IsOrdered, by_stamp}
use Rattle.desk_ops.proofs.Parts.{one_unforked}
use Rattle.desk_ops.proofs.Stamps.{before-asym, before-irrefl, before-other, before-trans, by_cases, is_equal, is_less, same-true}
use Rattle.desk_ops.proofs.Unions.{has_op-with_op, with_all_push}
use Rattle.feed_readings.specs.declared.parts.Beside.{Beside}
use Rattle.feed_readings.specs.Parts.{AreNews, AreShared, IsBeside, deletes_held, is_target}
use Rattle.feed_readings.specs.Sides.{ArePassed}
use Rattle.feed_readings.proofs.Differing.{any_deletes, deletes_any, either_true, held_list, list_held, not_true, or_left, or_right, same_truth}

abbrev set : List Op → OpSet
set ops = with_all no_ops ops

-- operations that are not told apart are one
pub same_op : (one op : Op) (b : Bool) → b ≡ not ((op_eq.ghosts).eq one op) → b ≡ false → one ≡ op
same_op one op b is e =
    by_cases (eq_by_cmp op_cmp one op)
    (λ k. op_antisymmetric one op (is_equal (op_cmp one op) k))
    (λ k. absurd (true≢false (sym (is ∙ ap not (op_tie one op ∙ k)) ∙ e)))

-- ---- lists with one operation more

last_among : (o : Op) (ops : List Op) → Among o (ops ++ o ∷ [])
last_among o [] = inl refl
last_among o (p ∷ ops) = inr (last_among o ops)

more_among : (o p : Op) (ops : List Op) → Among p ops → Among p (ops ++ o ∷ [])
more_among o p [] m = absurd m
more_among o p (x ∷ ops) (inl e) = inl e
more_among o p (x ∷ ops) (inr m) = inr (more_among o p ops m)

among_more : (o p : Op) (ops : List Op) → Among p (ops ++ o ∷ []) → Among p ops ⊎ (o ≡ p)
among_more o p [] (inl e) = inr e
among_more o p [] (inr m) = absurd m
among_more o p (x ∷ ops) (inl e) = inl (inl e)
among_more o p (x ∷ ops) (inr m) = by (among_more o p ops m)
  where
    by : Among p ops ⊎ (o ≡ p) → Among p (x ∷ ops) ⊎ (o ≡ p)
    by (inl n) = inl (inr n)
    by (inr e) = inr e

ordered_more : (o : Op) (ops : List Op) → IsOrdered ops → ((p : Op) → Among p ops → op_cmp p o ≡ Less) → IsOrdered (ops ++ o ∷ [])
ordered_more o [] up h = (tt, tt)
ordered_more o (p ∷ ops) up h = (Each-append (λ q. op_cmp p q ≡ Less) ops (o ∷ []) up.0 (h p (inl refl), tt), ordered_more o ops up.1 (λ q m. h q (inr m)))

kept_more : (f : Op → Bool) (o : Op) (ops : List Op) → f o ≡ true → filter f (ops ++ o ∷ []) ≡ filter f ops ++ o ∷ []
kept_more f o ops e = filter-append f ops (o ∷ []) ∙ ap (λ (b : Bool). filter f ops ++ cond b (o ∷ []) []) e

left_more : (f : Op → Bool) (o : Op) (ops : List Op) → f o ≡ false → filter f (ops ++ o ∷ []) ≡ filter f ops
left_more f o ops e = filter-append f ops (o ∷ []) ∙ ap (λ (b : Bool). filter f ops ++ cond b (o ∷ []) []) e ∙ append-nil (filter f ops)

same_kept : (f g : Op → Bool) (ops : List Op) → ((q : Op) → Among q ops → f q ≡ g q) → filter f ops ≡ filter g ops
same_kept f g [] h = refl
same_kept f g (x ∷ ops) h =
    ap (λ (b : Bool). cond b (x ∷ filter f ops) (filter f ops)) (h x (inl refl))
    ∙ ap (λ (l : List Op). cond (g x) (x ∷ l) l) (same_kept f g ops (λ q m. h q (inr m)))

not_itself : (o q : Op) → (q ≡ o → ⊥) → eq_by_cmp op_cmp q o ≡ false
not_itself o q other = by_cases (eq_by_cmp op_cmp q o) (λ e. absurd (other (op_antisymmetric q o (is_equal (op_cmp q o) e)))) (λ e. e)

-- what another list lacks of a list is the same where one more comes that is not in this
lacks_same : (o : Op) (others ops : List Op) → (Among o ops → ⊥) → missing_of (set (others ++ o ∷ [])) ops ≡ missing_of (set others) ops
lacks_same o others ops none =
    same_kept (λ q. not (has_op (set (others ++ o ∷ [])) q)) (λ q. not (has_op (set others) q)) ops
    (λ q m.
    ap not
    (ap (λ (s : OpSet). has_op s q) (with_all_push no_ops others o) ∙ has_op-with_op (set others) o q
    ∙ ap (λ (b : Bool). b || has_op (set others) q) (not_itself o q (λ e. none (subst (λ (x : Op). Among x ops) e m)))))

unheld : (o : Op) (ops : List Op) → (Among o ops → ⊥) → has_op (set ops) o ≡ false
unheld o ops none = by_cases (has_op (set ops) o) (λ e. absurd (none (held_list ops o e))) (λ e. e)

-- ---- stamps

up_to : (last s t : Stamp) → before last s ≡ false → before last t ≡ true → before s t ≡ true
up_to last s t late early =
    by_cases (same last s)
    (λ e. subst (λ (x : Stamp). before x t ≡ true) (same-true last s e) early)
    (λ e. before-trans s last t (before-other last s late e) early)

not_own : (s : Stamp) → before s s ≡ false
not_own s = by_cases (before s s) (λ e. absurd (before-irrefl s e)) (λ e. e)

less_by_stamp : (p o : Op) → before (stamp_of p) (stamp_of o) ≡ true → op_cmp p o ≡ Less
unfolding before
less_by_stamp p o b = by_stamp p o ∙ ap (λ (r : Ordering). ordering_then r (slice_cmp nat_cmp (rest_of p) (rest_of o))) (is_less (stamp_cmp (stamp_of p) (stamp_of o)) b)

-- ---- one operation that comes after all that was passed of a list

module _ (last : Stamp) (ops : List Op) (ends : (op : Op) → Among op ops → before last (stamp_of op) ≡ false) (o : Op) (after : before last (stamp_of o) ≡ true) where
  earlier : (p : Op) → Among p ops → before (stamp_of p) (stamp_of o) ≡ true
  earlier p m = up_to last (stamp_of p) (stamp_of o) (ends p m) after

  pub apart : (p : Op) → Among p ops → stamp_of p ≡ stamp_of o → ⊥
  apart p m e = before-irrefl (stamp_of o) (subst (λ (s : Stamp). before s (stamp_of o) ≡ true) e (earlier p m))

  pub none_yet : Among o ops → ⊥
  none_yet m = apart o m refl

  pub rises_on : T (is_rising ops) → T (is_rising (ops ++ o ∷ []))
  rises_on up = rising-from_ordered (ops ++ o ∷ []) (ordered_more o ops (ordered_rising ops up) (λ p m. less_by_stamp p o (earlier p m)))

  pub ends_same : (p : Op) → Among p ops → before (stamp_of o) (stamp_of p) ≡ false
  ends_same p m = before-asym (stamp_of p) (stamp_of o) (earlier p m)

  pub ends_more : (p : Op) → Among p (ops ++ o ∷ []) → before (stamp_of o) (stamp_of p) ≡ false
  ends_more p m = by (among_more o p ops m)
    where
      by : Among p ops ⊎ (o ≡ p) → before (stamp_of o) (stamp_of p) ≡ false
      by (inl n) = ends_same p n
      by (inr e) = subst (λ (x : Op). before (stamp_of o) (stamp_of x) ≡ false) e (not_own (stamp_of o))

-- ---- the two lists exchanged

other_way : {A B : Type 0} → A ⊎ B → B ⊎ A
other_way (inl a) = inr a
other_way (inr b) = inl b

exchanged : (ones ops : List Op) (last : Stamp) (olds news : List Op) (shared : BTreeMap Stamp (Unit {0})) → ArePassed ones ops last olds news shared → ArePassed ops ones last news olds shared
exchanged ones ops last olds news shared a = record {
  ones_rise = a.ops_rise;
  ops_rise = a.ones_rise;
  ones_end = a.ops_end;
  ops_end = a.ones_end;
  unforked = λ o p m n e. a.unforked o p (other_way m) (other_way n) e;
  ones_alone = a.ops_alone;
  ops_alone = a.ones_alone;
  both = λ s. (λ e. let r = (a.both s).0 e in (r.0, r.2, r.1, r.3), λ r. (a.both s).1 (r.0, r.2, r.1, r.3));
}

-- ---- one more of the one list, of the other, or of both

module _ (ones ops : List Op) (last : Stamp) (olds news : List Op) (shared : BTreeMap Stamp (Unit {0})) (a : ArePassed ones ops last olds news shared) (o : Op) (after : before last (stamp_of o) ≡ true) where
  none_of_ones : Among o ones → ⊥
  none_of_ones = none_yet last ones a.ones_end o after

  none_of_ops : Among o ops → ⊥
  none_of_ops = none_yet last ops a.ops_end o after

  passed_before : (p : Op) → Among p ones ⊎ Among p ops → stamp_of p ≡ stamp_of o → ⊥
  passed_before p (inl m) e = apart last ones a.ones_end o after p m e
  passed_before p (inr m) e = apart last ops a.ops_end o after p m e

  unforked_more : (p q : Op) → (Among p ones ⊎ Among p ops) ⊎ (o ≡ p) → (Among q ones ⊎ Among q ops) ⊎ (o ≡ q) → stamp_of p ≡ stamp_of q → p ≡ q
  unforked_more p q (inl m) (inl n) e = a.unforked p q m n e
  unforked_more p q (inl m) (inr f) e = absurd (passed_before p m (e ∙ sym (ap stamp_of f)))
  unforked_more p q (inr f) (inl n) e = absurd (passed_before q n (sym e ∙ sym (ap stamp_of f)))
  unforked_more p q (inr f) (inr g) e = sym f ∙ g

  of_old : (p : Op) → Among p (ones ++ o ∷ []) ⊎ Among p ops → (Among p ones ⊎ Among p ops) ⊎ (o ≡ p)
  of_old p (inl m) = by (among_more o p ones m)
    where
      by : Among p ones ⊎ (o ≡ p) → (Among p ones ⊎ Among p ops) ⊎ (o ≡ p)
      by (inl n) = inl (inl n)
      by (inr e) = inr e
  of_old p (inr m) = inl (inr m)

  of_each : (p : Op) → Among p (ones ++ o ∷ []) ⊎ Among p (ops ++ o ∷ []) → (Among p ones ⊎ Among p ops) ⊎ (o ≡ p)
  of_each p (inl m) = of_old p (inl m)
  of_each p (inr m) = by (among_more o p ops m)
    where
      by : Among p ops ⊎ (o ≡ p) → (Among p ones ⊎ Among p ops) ⊎ (o ≡ p)
      by (inl n) = inl (inr n)
      by (inr e) = inr e

  old_shared : (s : Stamp) → (is_target shared s ≡ true) ↔ ((op : Op) × Among op (ones ++ o ∷ []) × Among op ops × (deletes s op ≡ true))
  old_shared s = (λ e. let r = (a.both s).0 e in (r.0, more_among o r.0 ones r.1, r.2, r.3), λ r. (a.both s).1 (back r.0 r.1 r.2 r.3))
    where
      back : (p : Op) → Among p (ones ++ o ∷ []) → Among p ops → deletes s p ≡ true → (op : Op) × Among op ones × Among op ops × (deletes s op ≡ true)
      back p m n d = by (among_more o p ones m)
        where
          by : Among p ones ⊎ (o ≡ p) → (op : Op) × Among op ones × Among op ops × (deletes s op ≡ true)
          by (inl k) = (p, k, n, d)
          by (inr e) = absurd (none_of_ops (subst (λ (x : Op). Among x ops) (sym e) n))

  old_passed : ArePassed (ones ++ o ∷ []) ops (stamp_of o) (olds ++ o ∷ []) news shared
  old_passed = record {
    ones_rise = rises_on last ones a.ones_end o after a.ones_rise;
    ops_rise = a.ops_rise;
    ones_end = ends_more last ones a.ones_end o after;
    ops_end = ends_same last ops a.ops_end o after;
    unforked = λ p q m n e. unforked_more p q (of_old p m) (of_old q n) e;
    ones_alone = ap (λ (l : List Op). l ++ o ∷ []) a.ones_alone ∙ sym (kept_more (λ q. not (has_op (set ops) q)) o ones (ap not (unheld o ops none_of_ops)));
    ops_alone = a.ops_alone ∙ sym (lacks_same o ones ops none_of_ops);
    both = old_shared;
  }

  module _ (more : BTreeMap Stamp (Unit {0})) (put : (s : Stamp) → is_target more s ≡ (deletes s o || is_target shared s)) where
    both_shared : (s : Stamp) → (is_target more s ≡ true) ↔ ((op : Op) × Among op (ones ++ o ∷ []) × Among op (ops ++ o ∷ []) × (deletes s op ≡ true))
    both_shared s = (λ e. there (either_true (deletes s o) (is_target shared s) (sym (put s) ∙ e)), λ r. put s ∙ back r.0 r.1 r.2 r.3)
      where
        there : (deletes s o ≡ true) ⊎ (is_target shared s ≡ true) → (op : Op) × Among op (ones ++ o ∷ []) × Among op (ops ++ o ∷ []) × (deletes s op ≡ true)
        there (inl d) = (o, last_among o ones, last_among o ops, d)
        there (inr e) = let r = (a.both s).0 e in (r.0, more_among o r.0 ones r.1, more_among o r.0 ops r.2, r.3)

        back : (p : Op) → Among p (ones ++ o ∷ []) → Among p (ops ++ o ∷ []) → deletes s p ≡ true → (deletes s o || is_target shared s) ≡ true
        back p m n d = by (among_more o p ones m) (among_more o p ops n)
          where
            own : o ≡ p → (deletes s o || is_target shared s) ≡ true
            own e = or_left (deletes s o) (is_target shared s) (ap (deletes s) e ∙ d)

            by : Among p ones ⊎ (o ≡ p) → Among p ops ⊎ (o ≡ p) → (deletes s o || is_target shared s) ≡ true
            by (inl k) (inl l) = or_right (deletes s o) (is_target shared s) ((a.both s).1 (p, k, l, d))
            by (inr e) l = own e
            by (inl k) (inr e) = own e

    both_passed : ArePassed (ones ++ o ∷ []) (ops ++ o ∷ []) (stamp_of o) olds news more
    both_passed = record {
      ones_rise = rises_on last ones a.ones_end o after a.ones_rise;
      ops_rise = rises_on last ops a.ops_end o after a.ops_rise;
      ones_end = ends_more last ones a.ones_end o after;
      ops_end = ends_more last ops a.ops_end o after;
      unforked = λ p q m n e. unforked_more p q (of_each p m) (of_each q n) e;
      ones_alone = a.ones_alone ∙ sym (lacks_same o ops ones none_of_ones) ∙ sym (left_more (λ q. not (has_op (set (ops ++ o ∷ [])) q)) o ones (ap not (list_held (ops ++ o ∷ []) o (last_among o ops))));
      ops_alone = a.ops_alone ∙ sym (lacks_same o ones ops none_of_ops) ∙ sym (left_more (λ q. not (has_op (set (ones ++ o ∷ [])) q)) o ops (ap not (list_held (ones ++ o ∷ []) o (last_among o ones))));
      both = both_shared;
    }

pub put_one : (ones ops : List Op) (last s : Stamp) (olds more news : List Op) (shared : BTreeMap Stamp (Unit {0})) (o : Op) → s ≡ stamp_of o → before last s ≡ true → more ≡ olds ++ o ∷ []
    → ArePassed ones ops last olds news shared → ArePassed (ones ++ o ∷ []) ops s more news shared
put_one ones ops last s olds more news shared o is after items a =
    subst (λ (t : Stamp). ArePassed (ones ++ o ∷ []) ops t more news shared) (sym is)
    (subst (λ (l : List Op). ArePassed (ones ++ o ∷ []) ops (stamp_of o) l news shared) (sym items)
    (old_passed ones ops last olds news shared a o (subst (λ (t : Stamp). before last t ≡ true) is after)))

pub put_other : (ones ops : List Op) (last s : Stamp) (olds news more : List Op) (shared : BTreeMap Stamp (Unit {0})) (o : Op) → s ≡ stamp_of o → before last s ≡ true → more ≡ news ++ o ∷ []
    → ArePassed ones ops last olds news shared → ArePassed ones (ops ++ o ∷ []) s olds more shared
put_other ones ops last s olds news more shared o is after items a =
    exchanged (ops ++ o ∷ []) ones s more olds shared (put_one ops ones last s news more olds shared o is after items (exchanged ones ops last olds news shared a))

pub put_each : (ones ops : List Op) (last s : Stamp) (olds news : List Op) (shared more : BTreeMap Stamp (Unit {0})) (one o : Op) → one ≡ o → s ≡ stamp_of o → before last s ≡ true
    → ((t : Stamp) → is_target more t ≡ (deletes t o || is_target shared t)) → ArePassed ones ops last olds news shared → ArePassed (ones ++ one ∷ []) (ops ++ o ∷ []) s olds news more
put_each ones ops last s olds news shared more one o same is after put a =
    subst (λ (p : Op). ArePassed (ones ++ p ∷ []) (ops ++ o ∷ []) s olds news more) (sym same)
    (subst (λ (t : Stamp). ArePassed (ones ++ o ∷ []) (ops ++ o ∷ []) t olds news more) (sym is)
    (both_passed ones ops last olds news shared a o (subst (λ (t : Stamp). before last t ≡ true) is after) more put))

-- ---- up to the next place

pub next_one : (ones ops : List Op) (i : ℕ) (d : Op) (last : Stamp) (olds news : List Op) (shared : BTreeMap Stamp (Unit {0})) → i < length ones → ArePassed (take i ones ++ get_or ones i d ∷ []) ops last olds news shared
    → ArePassed (take (i + 1) ones) ops last olds news shared
next_one ones ops i d last olds news shared lt a = subst (λ (l : List Op). ArePassed l ops last olds news shared) (sym (take_more ones i d lt)) a

pub next_other : (ones ops : List Op) (i : ℕ) (d : Op) (last : Stamp) (olds news : List Op) (shared : BTreeMap Stamp (Unit {0})) → i < length ops → ArePassed ones (take i ops ++ get_or ops i d ∷ []) last olds news shared
    → ArePassed ones (take (i + 1) ops) last olds news shared
next_other ones ops i d last olds news shared lt a = subst (λ (l : List Op). ArePassed ones l last olds news shared) (sym (take_more ops i d lt)) a

pub next_both : (ones ops : List Op) (i j : ℕ) (d e : Op) (last : Stamp) (olds news : List Op) (shared : BTreeMap Stamp (Unit {0})) → i < length ones → j < length ops
    → ArePassed (take i ones ++ get_or ones i d ∷ []) (take j ops ++ get_or ops j e ∷ []) last olds news shared → ArePassed (take (i + 1) ones) (take (j + 1) ops) last olds news shared
next_both ones ops i j d e last olds news shared lt below a = next_one ones (take (j + 1) ops) i d last olds news shared lt (next_other (take i ones ++ get_or ones i d ∷ []) ops j e last olds news shared below a)

-- ---- both lists were passed whole

module _ (ones ops : List Op) (last : Stamp) (olds news : List Op) (shared : BTreeMap Stamp (Unit {0})) (a : ArePassed ones ops last olds news shared) where
  targets_shared : AreShared (set ops) ones shared
  targets_shared s = same_truth (is_target shared s) (list_any (deletes_held (set ops) s) ones) there back
    where
      there : is_target shared s ≡ true → list_any (deletes_held (set ops) s) ones ≡ true
      there e = let r = (a.both s).0 e in deletes_any (set ops) s ones r.0 r.1 (list_held ops r.0 r.2) r.3

      back : list_any (deletes_held (set ops) s) ones ≡ true → is_target shared s ≡ true
      back e = let r = any_deletes (set ops) s ones e in (a.both s).1 (r.0, r.1, held_list ops r.0 r.2.0, r.2.1)

  ones_unforked : IsUnforked (set ones)
  ones_unforked = one_unforked (set ones) (λ o p m n e. a.unforked o p (inl (held_list ones o m)) (inl (held_list ones p n)) e)

  ops_unforked : IsUnforked (set ops)
  ops_unforked = one_unforked (set ops) (λ o p m n e. a.unforked o p (inr (held_list ops o m)) (inr (held_list ops p n)) e)

  new_stamps : list_any (λ op. is_borne_in (set ones) (stamp_of op)) news ≡ false
  new_stamps = by_cases (list_any (λ op. is_borne_in (set ones) (stamp_of op)) news) (λ e. absurd (borne (any_some (λ op. is_borne_in (set ones) (stamp_of op)) news e))) (λ e. e)
    where
      borne : ((o : Op) × Among o news × (is_borne_in (set ones) (stamp_of o) ≡ true)) → ⊥
      borne r =
          let k = among-filter (λ q. not (has_op (set ones) q)) ops r.0 (subst (Among r.0) a.ops_alone r.1) in
          let b = borne_op (set ones) (stamp_of r.0) r.2 in
          let is : b.0 ≡ r.0 = a.unforked b.0 r.0 (inl (held_list ones b.0 b.1)) (inr k.0) b.2 in
          true≢false (sym (subst (λ (x : Op). has_op (set ones) x ≡ true) is b.1) ∙ not_true (has_op (set ones) r.0) k.1)

  pub beside_passed : {A : Type 0} (beside : Beside A) → beside.alone.items ≡ olds → beside.shared ≡ shared → All IsLawful ones → IsBeside (set ops) ones beside
  beside_passed beside is_alone is_shared lawful = record {
    unforked = ops_unforked;
    missing = subst (IsMissing (set ops) ones) (sym (is_alone ∙ a.ones_alone)) (missing-of_rising (set ops) ones a.ones_rise);
    shared = subst (AreShared (set ops) ones) (sym is_shared) targets_shared;
    lawful = subst (All IsLawful) (sym (is_alone ∙ a.ones_alone)) (All-filter (λ q. not (has_op (set ops) q)) IsLawful ones lawful);
  }

  pub news_passed : All IsLawful ops → AreNews (set ones) ops news
  news_passed lawful = record {
    unforked = ones_unforked;
    missing = subst (IsMissing (set ones) ops) (sym a.ops_alone) (missing-of_rising (set ones) ops a.ops_rise);
    fresh = new_stamps;
    lawful = subst (All IsLawful) (sym a.ops_alone) (All-filter (λ q. not (has_op (set ones) q)) IsLawful ops lawful);
  }
