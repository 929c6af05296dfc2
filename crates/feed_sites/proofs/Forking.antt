-- A merge with a set that is renumbered forks nothing.
use Rattle.std.proofs.Common.{◌≡◌, ◌∙◌, ℕ, Bool, true, false, not, ◌||◌, List, refl, sym, ap, subst, ◌⊎◌, inl, inr}
use Rattle.std.specs.Prelude.{Option, None, Some}
use Rattle.std.specs.Ordering.{eq_by_cmp}
use Rattle.std.proofs.lemmas.Bool.{true≢false}
use Rattle.desk_ops.specs.declared.op.Op.{Op}
use Rattle.desk_ops.specs.declared.op.Stamp.{Stamp}
use Rattle.desk_ops.specs.Op.{stamp_of}
use Rattle.desk_ops.specs.OpSet.{OpSet, has_op, in_order, union}
use Rattle.desk_ops.specs.Order.{op_cmp}
use Rattle.desk_ops.specs.OrderLaws.{op_antisymmetric}
use Rattle.desk_ops.specs.Held.{IsUnforked, clear_op_in, is_clear, is_clear_in, is_forked, is_forked_in}
use Rattle.desk_ops.specs.Lists.{Among}
use Rattle.desk_ops.proofs.Bearers.{clear_sole, forked_two, op_sole, sole_clear}
use Rattle.desk_ops.proofs.Ends.{among_held, held_among}
use Rattle.desk_ops.proofs.Lists.{each-from_among}
use Rattle.desk_ops.proofs.One.{unforked-clear}
use Rattle.desk_ops.proofs.Stamps.{by_cases, is_equal}
use Rattle.desk_ops.proofs.Unions.{has_op-union}
use Rattle.feed_sites.specs.Moving.{collides, differ, renumbered, set_renumbered}
use Rattle.feed_sites.specs.Refusing.{MayMove}
use Rattle.feed_sites.specs.Laws.{MergesWithNoFork}
use Rattle.feed_sites.proofs.Clashing.{cases}
use Rattle.feed_sites.proofs.Injective.{one_before, same_stamp}
use Rattle.feed_sites.proofs.Renumbered.{becomes, bears_free, new_stamp, not_colliding, stays}

-- a stamp is borne once
abbrev pub BearsOnce : OpSet → Type 0
BearsOnce set = (a b : Op) → has_op set a ≡ true → has_op set b ≡ true → stamp_of a ≡ stamp_of b → a ≡ b

once : (set : OpSet) → IsUnforked set → BearsOnce set
once set unforked a b h k same =
    let clear : is_clear_in set (stamp_of a) ≡ true = unforked-clear set unforked a (among_held set a h) in
    let sole = clear_sole set (stamp_of a) clear in
    sole.3 a h refl ∙ sym (sole.3 b k (sym same))

unforked : (set : OpSet) → BearsOnce set → IsUnforked set
unforked set bears = each-from_among (λ (op : Op). is_forked (in_order set) (stamp_of op) ≡ false) (in_order set) (λ op m.
    by_cases (is_forked_in set (stamp_of op))
    (λ e. let r = forked_two set (stamp_of op) e in absurd (r.6 (bears r.0 r.1 r.2 r.3 (r.4 ∙ sym r.5))))
    (λ e. e))

clear_there : (set : OpSet) → BearsOnce set → (op : Op) → has_op set op ≡ true → clear_op_in set (stamp_of op) ≡ Some op
clear_there set bears op h = op_sole set (stamp_of op) op (refl, (h, sole_clear set (stamp_of op) (op, h, refl, λ p k c. bears p op k h c)))

module _ (site : ℕ) (feed other moved : OpSet) (may : MayMove site feed other moved) (first : BearsOnce feed) (second : BearsOnce other) where
  stays_apart : (a b : Op) → has_op moved a ≡ true → has_op moved b ≡ false → has_op feed b ≡ true → stamp_of (renumbered site moved a) ≡ stamp_of (renumbered site moved b) → ⊥
  stays_apart a b m n k same =
      bears_free site feed may.free.of_feed b k (ap (λ (s : Stamp). s.site) (ap stamp_of (sym (stays site moved b n)) ∙ sym same ∙ new_stamp site moved a m))

  once_old : (a b : Op) → has_op feed a ≡ true → has_op feed b ≡ true → stamp_of (renumbered site moved a) ≡ stamp_of (renumbered site moved b) → a ≡ b
  once_old a b h k same =
      by_cases (has_op moved a)
      (λ m. by_cases (has_op moved b)
      (λ n. first a b h k (same_stamp site feed other moved may a b m n (ap (λ (s : Stamp). s.counter) (sym (new_stamp site moved a m) ∙ same ∙ new_stamp site moved b n))))
      (λ n. absurd (stays_apart a b m n k same)))
      (λ m. by_cases (has_op moved b)
      (λ n. absurd (stays_apart b a n m h (sym same)))
      (λ n. first a b h k (ap stamp_of (sym (stays site moved a m)) ∙ same ∙ ap stamp_of (stays site moved b n))))

  once_new : BearsOnce (set_renumbered site moved feed)
  once_new a b h k same =
      let p = (becomes site feed moved a).0 h in
      let q = (becomes site feed moved b).0 k in
      sym p.2 ∙ ap (renumbered site moved) (once_old p.0 q.0 p.1 q.1 (ap stamp_of p.2 ∙ same ∙ ap stamp_of (sym q.2))) ∙ q.2

  between : (a b : Op) → has_op (set_renumbered site moved feed) a ≡ true → has_op other b ≡ true → stamp_of a ≡ stamp_of b → a ≡ b
  between a b h k same =
      by_cases (eq_by_cmp op_cmp a b)
      (λ e. op_antisymmetric a b (is_equal (op_cmp a b) e))
      (λ e.
      let one : clear_op_in (set_renumbered site moved feed) (stamp_of a) ≡ Some a = clear_there (set_renumbered site moved feed) once_new a h in
      let two : clear_op_in other (stamp_of a) ≡ Some b = subst (λ (s : Stamp). clear_op_in other s ≡ Some b) (sym same) (clear_there other second b k) in
      let met : collides (set_renumbered site moved feed) other (stamp_of a) ≡ true = rw (one, two) (ap not e) in
      absurd (not_colliding site feed other moved may (stamp_of a) met))

  held : (op : Op) → has_op (union (set_renumbered site moved feed) other) op ≡ true → (has_op (set_renumbered site moved feed) op ≡ true) ⊎ (has_op other op ≡ true)
  held op h = cases (has_op (set_renumbered site moved feed) op) (has_op other op) (sym (has_op-union (set_renumbered site moved feed) other op) ∙ h)

  pub once_merged : BearsOnce (union (set_renumbered site moved feed) other)
  once_merged a b h k same = go (held a h) (held b k)
    where
      go : ((has_op (set_renumbered site moved feed) a ≡ true) ⊎ (has_op other a ≡ true)) → ((has_op (set_renumbered site moved feed) b ≡ true) ⊎ (has_op other b ≡ true)) → a ≡ b
      go (inl p) (inl q) = once_new a b p q same
      go (inl p) (inr q) = between a b p q same
      go (inr p) (inl q) = sym (between b a q p (sym same))
      go (inr p) (inr q) = second a b p q same

pub merges_with_no_fork : MergesWithNoFork
merges_with_no_fork site feed other moved may one two = unforked (union (set_renumbered site moved feed) other) (once_merged site feed other moved may (once feed one) (once other two))
