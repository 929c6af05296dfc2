-- No two operations become one.
use Rattle.std.proofs.Common.{◌≡◌, ◌∙◌, ◌+◌, ℕ, Bool, true, false, cond, ◌||◌, List, [], ◌∷◌, length, map, refl, sym, ap, subst, inl, inr, arith}
use Rattle.std.specs.Prelude.{Option, None, Some, nat_eq, ◌==◌}
use Rattle.std.specs.Ordering.{eq_by_cmp}
use Rattle.std.proofs.lemmas.Bool.{true≢false}
use Rattle.std.proofs.lemmas.Bool.Decides.{nat_tests}
use Rattle.std.specs.declared.cmp.Ordering.TheVariants.{Less}
use Rattle.desk_ops.specs.declared.op.Op.{Op}
use Rattle.desk_ops.specs.declared.op.Op.TheVariants as kinds
use Rattle.desk_ops.specs.declared.op.Stamp.{Stamp}
use Rattle.desk_ops.specs.Op.{stamp_of, target_of}
use Rattle.desk_ops.specs.OpSet.{OpSet, has_op, in_order, no_ops, size, with_all, with_op}
use Rattle.desk_ops.specs.Order.{op_cmp}
use Rattle.desk_ops.specs.OrderLaws.{op_antisymmetric, stamp_exact}
use Rattle.desk_ops.specs.Held.{is_borne_in}
use Rattle.desk_ops.specs.Lists.{Among}
use Rattle.desk_ops.proofs.Bearers.{borne_op}
use Rattle.desk_ops.proofs.Ends.{held_among}
use Rattle.desk_ops.proofs.Lists.{each-among}
use Rattle.desk_ops.proofs.Means.{IsOrdered, ordered}
use Rattle.desk_ops.proofs.OpSets.{length-in_order, less-apart, none-held, no_ops-from_rising, size-from_rising}
use Rattle.desk_ops.proofs.Stamps.{by_cases, is_equal}
use Rattle.desk_ops.proofs.Unions.{has_op-with_op, size-with_op}
use Rattle.feed_sites.specs.Moving.{op_under, renumbered, set_renumbered, stamp_under}
use Rattle.feed_sites.specs.Refusing.{Clash, MayMove}
use Rattle.feed_sites.specs.Laws.{NoneIsLost}
use Rattle.feed_sites.proofs.Renumbered.{bears_free, goes, names_free, new_stamp, stays, under_borne, under_unborne}

module _ (site : ℕ) (feed other moved : OpSet) (may : MayMove site feed other moved) where
  -- two that are moved and have one counter are of one site
  one_site : (a b : Op) → has_op moved a ≡ true → has_op moved b ≡ true → (stamp_of a).counter ≡ (stamp_of b).counter → (stamp_of a).site ≡ (stamp_of b).site
  one_site a b h k same =
      by_cases ((stamp_of a).site == (stamp_of b).site)
      (λ e. grind (arith, nat_tests))
      (λ e. absurd (may.apart (a, b, h, k, same, λ is. grind (arith, nat_tests))))

  pub same_stamp : (a b : Op) → has_op moved a ≡ true → has_op moved b ≡ true → (stamp_of a).counter ≡ (stamp_of b).counter → stamp_of a ≡ stamp_of b
  same_stamp a b h k same = stamp_exact (stamp_of a) (stamp_of b) same (one_site a b h k same)

  -- of stamps that are of another site no two become one
  abbrev Named : Stamp → Type 0
  Named t = t.site ≡ site → ⊥

  one_stamp : (t u : Stamp) → Named t → Named u → stamp_under site moved t ≡ stamp_under site moved u → t ≡ u
  one_stamp t u n m e =
      by_cases (is_borne_in moved t)
      (λ p. by_cases (is_borne_in moved u)
      (λ q.
      let a = borne_op moved t p in
      let b = borne_op moved u q in
      let counters : t.counter ≡ u.counter = ap (λ (s : Stamp). s.counter) (sym (under_borne site moved t p) ∙ e ∙ under_borne site moved u q) in
      sym a.2 ∙ same_stamp a.0 b.0 a.1 b.1 (ap (λ (s : Stamp). s.counter) a.2 ∙ counters ∙ ap (λ (s : Stamp). s.counter) (sym b.2)) ∙ b.2)
      (λ q. absurd (m (ap (λ (s : Stamp). s.site) (sym (under_unborne site moved u q) ∙ sym e ∙ under_borne site moved t p)))))
      (λ p. by_cases (is_borne_in moved u)
      (λ q. absurd (n (ap (λ (s : Stamp). s.site) (sym (under_unborne site moved t p) ∙ e ∙ under_borne site moved u q))))
      (λ q. sym (under_unborne site moved t p) ∙ e ∙ under_unborne site moved u q))

  named : (op : Op) (t : Stamp) → has_op feed op ≡ true → target_of op ≡ Some t → Named t
  named op t h is e = names_free site feed may.free.of_feed op t h is e

  borne : (op : Op) → has_op feed op ≡ true → Named (stamp_of op)
  borne op h e = bears_free site feed may.free.of_feed op h e

  one_under : (a b : Op) → has_op feed a ≡ true → has_op feed b ≡ true → op_under site moved a ≡ op_under site moved b → a ≡ b
  one_under (kinds.Insert s p y) (kinds.Insert t q z) h k e =
      let first : s ≡ t = one_stamp s t (borne (kinds.Insert s p y) h) (borne (kinds.Insert t q z) k) (cc) in
      let second : p ≡ q = one_stamp p q (named (kinds.Insert s p y) p h refl) (named (kinds.Insert t q z) q k refl) (cc) in
      let third : y ≡ z = cc in
      cc
  one_under (kinds.Insert s p y) (kinds.Delete t q) h k e = cc
  one_under (kinds.Insert s p y) (kinds.Set t q z) h k e = cc
  one_under (kinds.Delete s p) (kinds.Insert t q z) h k e = cc
  one_under (kinds.Delete s p) (kinds.Delete t q) h k e =
      let first : s ≡ t = one_stamp s t (borne (kinds.Delete s p) h) (borne (kinds.Delete t q) k) (cc) in
      let second : p ≡ q = one_stamp p q (named (kinds.Delete s p) p h refl) (named (kinds.Delete t q) q k refl) (cc) in
      cc
  one_under (kinds.Delete s p) (kinds.Set t q z) h k e = cc
  one_under (kinds.Set s y p) (kinds.Insert t q z) h k e = cc
  one_under (kinds.Set s y p) (kinds.Delete t q) h k e = cc
  one_under (kinds.Set s y p) (kinds.Set t z q) h k e =
      let first : s ≡ t = one_stamp s t (borne (kinds.Set s y p) h) (borne (kinds.Set t z q) k) (cc) in
      let second : y ≡ z = cc in
      let third : p ≡ q = cc in
      cc

  -- an operation that stays is none that was moved
  apart : (a b : Op) → has_op moved a ≡ true → has_op feed b ≡ true → renumbered site moved a ≡ b → ⊥
  apart a b m k e = borne b k (ap (λ (o : Op). (stamp_of o).site) (sym e) ∙ ap (λ (s : Stamp). s.site) (new_stamp site moved a m))

  pub one_before : (a b : Op) → has_op feed a ≡ true → has_op feed b ≡ true → renumbered site moved a ≡ renumbered site moved b → a ≡ b
  one_before a b h k e =
      by_cases (has_op moved a)
      (λ m. by_cases (has_op moved b)
      (λ n. one_under a b h k (sym (goes site moved a m) ∙ e ∙ goes site moved b n))
      (λ n. absurd (apart a b m k (e ∙ stays site moved b n))))
      (λ m. by_cases (has_op moved b)
      (λ n. absurd (apart b a n h (sym e ∙ stays site moved a m)))
      (λ n. sym (stays site moved a m) ∙ e ∙ stays site moved b n))

  counts : (set : OpSet) (ops : List Op) → IsOrdered ops → ((op : Op) → Among op ops → has_op feed op ≡ true) → ((op : Op) → Among op ops → has_op set (renumbered site moved op) ≡ false)
      → size (with_all set (map (renumbered site moved) ops)) ≡ size set + length ops
  counts set [] up within absent = omega arith
  counts set (op ∷ ops) up within absent =
      let op_new : Op = renumbered site moved op in
      let grown : size (with_op set op_new) ≡ size set + 1 = size-with_op set op_new ∙ ap (λ (b : Bool). cond b (size set) (size set + 1)) (absent op (inl refl)) in
      let rest : size (with_all (with_op set op_new) (map (renumbered site moved) ops)) ≡ size (with_op set op_new) + length ops =
      counts (with_op set op_new) ops up.1 (λ q m. within q (inr m)) (λ q m.
      by_cases (has_op (with_op set op_new) (renumbered site moved q))
      (λ e. by_cases (eq_by_cmp op_cmp (renumbered site moved q) op_new)
      (λ t. absurd (less-apart op q (each-among (λ (p : Op). op_cmp op p ≡ Less) ops q up.0 m) (sym (one_before q op (within q (inr m)) (within op (inl refl)) (op_antisymmetric (renumbered site moved q) op_new (is_equal (op_cmp (renumbered site moved q) op_new) t))))))
      (λ t. absurd (true≢false (sym e ∙ has_op-with_op set op_new (renumbered site moved q) ∙ ap (λ (b : Bool). b || has_op set (renumbered site moved q)) t ∙ absent q (inr m)))))
      (λ e. e)) in
      omega (arith, grown, rest)

none_size : size no_ops ≡ 0
none_size = ap size (sym no_ops-from_rising) ∙ size-from_rising [] tt

pub none_lost : NoneIsLost
none_lost site feed other moved may =
    let all = counts site feed other moved may no_ops (in_order feed) (ordered feed) (λ op m. held_among feed op m) (λ op m. none-held (renumbered site moved op)) in
    let nothing = none_size in
    let long = length-in_order feed in
    omega (arith, all, nothing, long)
