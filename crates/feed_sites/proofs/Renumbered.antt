-- What a set holds once it is renumbered, and that nothing collides.
use Rattle.std.proofs.Common.{◌≡◌, ◌∙◌, ◌≤◌, ℕ, Bool, true, false, not, ◌&&◌, ◌||◌, List, [], ◌∷◌, map, refl, sym, ap, subst, ◌⊎◌, inl, inr, arith}
use Rattle.std.specs.Prelude.{◌↔◌, ◌==◌, Option, None, Some, if◌then◌else◌, nat_le}
use Rattle.std.specs.Ordering.{eq_by_cmp, is_eq}
use Rattle.std.specs.List.{list_any}
use Rattle.std.proofs.Math.Bool.{or-true}
use Rattle.std.proofs.lemmas.Bool.{true≢false}
use Rattle.std.proofs.lemmas.Bool.Decides.{nat_tests}
use Rattle.std.proofs.lemmas.Cmp.{tied_itself}
use Rattle.desk_ops.specs.declared.op.Op.{Op}
use Rattle.desk_ops.specs.declared.op.Op.TheVariants as kinds
use Rattle.desk_ops.specs.declared.op.Stamp.{Stamp}
use Rattle.desk_ops.specs.Op.{stamp_of, target_of}
use Rattle.desk_ops.specs.OpSet.{OpSet, has_op, in_order, no_ops, with_all}
use Rattle.desk_ops.specs.Order.{op_cmp}
use Rattle.desk_ops.specs.OrderLaws.{op_total}
use Rattle.desk_ops.specs.Held.{clear_op_in, is_borne_in, is_clear_in}
use Rattle.desk_ops.specs.Lists.{Among}
use Rattle.desk_ops.specs.Live.{IsClearOp}
use Rattle.desk_ops.proofs.Bearers.{clear_sole, op_borne, op_sole, sole_clear, sole_op}
use Rattle.desk_ops.proofs.Deletes.{some_any}
use Rattle.desk_ops.proofs.Ends.{among_held, held_among}
use Rattle.desk_ops.proofs.Means.{among-any, any-among}
use Rattle.desk_ops.proofs.OpSets.{none-held}
use Rattle.desk_ops.proofs.Stamps.{by_cases}
use Rattle.desk_ops.proofs.Unions.{has_op-with_all}
use Rattle.feed_sites.specs.Moving.{AreMoved, IsBehind, IsMoved, collides, differ, leads_to, op_under, renumbered, set_renumbered, stamp_under}
use Rattle.feed_sites.specs.Refusing.{MayMove, is_of, is_used, names, uses}
use Rattle.feed_sites.specs.Laws.{HoldsWhatTheyBecome, NothingCollides, OthersStay}
use Rattle.feed_sites.proofs.Moved.{and_true, not_is}

or_false : (a b : Bool) → b ≡ false → (a || b) ≡ a
or_false true b e = refl
or_false false b e = e

among-map : {A B : Type 0} (f : A → B) (xs : List A) (y : B) → Among y (map f xs) → (x : A) × Among x xs × (f x ≡ y)
among-map f [] y m = absurd m
among-map f (x ∷ xs) y (inl e) = (x, inl refl, e)
among-map f (x ∷ xs) y (inr m) = let r = among-map f xs y m in (r.0, inr r.1, r.2)

among_map_from : {A B : Type 0} (f : A → B) (xs : List A) (x : A) → Among x xs → Among (f x) (map f xs)
among_map_from f [] x m = absurd m
among_map_from f (z ∷ xs) x (inl h) = inl (ap f h)
among_map_from f (z ∷ xs) x (inr m) = inr (among_map_from f xs x m)

in_list : (ops : List Op) (op : Op) → has_op (with_all no_ops ops) op ≡ list_any (eq_by_cmp op_cmp op) ops
in_list ops op = has_op-with_all no_ops ops op ∙ or_false (list_any (eq_by_cmp op_cmp op) ops) (has_op no_ops op) (none-held op)

pub becomes : HoldsWhatTheyBecome
becomes site feed moved op = (
  λ h.
      let r = among-map (renumbered site moved) (in_order feed) op (any-among op (map (renumbered site moved) (in_order feed)) (sym (in_list (map (renumbered site moved) (in_order feed)) op) ∙ h)) in
      (r.0, held_among feed r.0 r.1, r.2),
  λ r.
      let m : Among op (map (renumbered site moved) (in_order feed)) = subst (λ (o : Op). Among o (map (renumbered site moved) (in_order feed))) r.2 (among_map_from (renumbered site moved) (in_order feed) r.0 (among_held feed r.0 r.1)) in
      in_list (map (renumbered site moved) (in_order feed)) op ∙ among-any op (map (renumbered site moved) (in_order feed)) m,
)

-- ---- what an operation becomes

module _ (site : ℕ) (moved : OpSet) where
  pub stays : (op : Op) → has_op moved op ≡ false → renumbered site moved op ≡ op
  stays op e = ap (λ (b : Bool). if b then op_under site moved op else op) e

  pub goes : (op : Op) → has_op moved op ≡ true → renumbered site moved op ≡ op_under site moved op
  goes op e = ap (λ (b : Bool). if b then op_under site moved op else op) e

  pub under_borne : (s : Stamp) → is_borne_in moved s ≡ true → stamp_under site moved s ≡ record { counter = s.counter; site = site }
  under_borne s e = ap (λ (b : Bool). if b then record { counter = s.counter; site = site } else s) e

  pub under_unborne : (s : Stamp) → is_borne_in moved s ≡ false → stamp_under site moved s ≡ s
  under_unborne s e = ap (λ (b : Bool). if b then record { counter = s.counter; site = site } else s) e

  stamp_goes : (op : Op) → stamp_of (op_under site moved op) ≡ stamp_under site moved (stamp_of op)
  stamp_goes (kinds.Insert stamp parent symbol) = refl
  stamp_goes (kinds.Delete stamp target) = refl
  stamp_goes (kinds.Set stamp key value) = refl

  -- the stamp of an operation that is moved
  pub new_stamp : (op : Op) → has_op moved op ≡ true → stamp_of (renumbered site moved op) ≡ record { counter = (stamp_of op).counter; site = site }
  new_stamp op h = ap stamp_of (goes op h) ∙ stamp_goes op ∙ under_borne (stamp_of op) (op_borne moved (stamp_of op) (op, h, refl))

-- ---- a number that is free

same_site : (site : ℕ) (s : Stamp) → s.site ≡ site → is_of site s ≡ true
same_site site s e = grind (arith, nat_tests)

pub bears_free : (site : ℕ) (set : OpSet) → is_used site set ≡ false → (op : Op) → has_op set op ≡ true → (stamp_of op).site ≡ site → ⊥
bears_free site set free op h e =
    let used : uses site op ≡ true = ap (λ (b : Bool). b || names (is_of site) (target_of op)) (same_site site (stamp_of op) e) in
    true≢false (sym (some_any (uses site) (in_order set) op (among_held set op h) used) ∙ free)

pub names_free : (site : ℕ) (set : OpSet) → is_used site set ≡ false → (op : Op) (t : Stamp) → has_op set op ≡ true → target_of op ≡ Some t → t.site ≡ site → ⊥
names_free site set free op t h is e =
    let named : names (is_of site) (target_of op) ≡ true = ap (names (is_of site)) is ∙ same_site site t e in
    let used : uses site op ≡ true = ap (λ (b : Bool). is_of site (stamp_of op) || b) named ∙ or-true (is_of site (stamp_of op)) in
    true≢false (sym (some_any (uses site) (in_order set) op (among_held set op h) used) ∙ free)

-- ---- laws

unmoved : (feed other moved : OpSet) → AreMoved feed other moved → (op : Op) → (IsMoved feed other op → ⊥) → has_op moved op ≡ false
unmoved feed other moved are op never = by_cases (has_op moved op) (λ e. absurd (never ((are op).0 e))) (λ e. e)

pub others_stay : OthersStay
others_stay site feed other moved may op h never = (becomes site feed moved op).1 (op, h, stays site moved op (unmoved feed other moved may.are_moved op never))

leads_itself : (s : Stamp) → leads_to s s ≡ true
leads_itself s = grind (arith, nat_tests)

pub differ_both : (one other : Option Op) → differ one other ≡ true → (first second : Op) × (one ≡ Some first) × (other ≡ Some second) × (eq_by_cmp op_cmp first second ≡ false)
differ_both None other e = absurd (true≢false (sym e))
differ_both (Some one) None e = absurd (true≢false (sym e))
differ_both (Some one) (Some other) e = (one, other, refl, refl, not_is (eq_by_cmp op_cmp one other) e)

tied : (a b : Op) → a ≡ b → eq_by_cmp op_cmp a b ≡ true
tied a b e = subst (λ (o : Op). eq_by_cmp op_cmp a o ≡ true) e (ap is_eq (tied_itself op_total a))

module _ (site : ℕ) (feed other moved : OpSet) (may : MayMove site feed other moved) (s : Stamp) where
  -- one of the feed that bears the stamp and stays is not behind a collision
  never_behind : (x : Op) → has_op feed x ≡ true → stamp_of x ≡ s → has_op moved x ≡ false → has_op other x ≡ false → IsBehind feed other s → ⊥
  never_behind x h b e alone behind =
      true≢false (sym ((may.are_moved x).1 (record { held = h; alone = alone; behind = subst (λ (t : Stamp). IsBehind feed other t) (sym b) behind })) ∙ e)

  module _ (x : Op) (h : has_op feed x ≡ true) (b : stamp_of x ≡ s) (e : has_op moved x ≡ false) (alone : has_op other x ≡ false)
      (sole : (p : Op) → has_op (set_renumbered site moved feed) p ≡ true → stamp_of p ≡ s → p ≡ x) where
    sole_before : (p : Op) → has_op feed p ≡ true → stamp_of p ≡ s → p ≡ x
    sole_before p k c =
        by_cases (has_op moved p)
        (λ m. absurd (never_behind x h b e alone (subst (λ (t : Stamp). IsBehind feed other t) c ((may.are_moved p).0 m).behind)))
        (λ m. sole p ((becomes site feed moved p).1 (p, k, stays site moved p m)) c)

    clear_before : clear_op_in feed s ≡ Some x
    clear_before = op_sole feed s x (b, (h, subst (λ (t : Stamp). is_clear_in feed t ≡ true) (sym b) (sole_clear feed s (x, h, b, sole_before))))

    pub collided : (y : Op) → clear_op_in other s ≡ Some y → eq_by_cmp op_cmp x y ≡ false → ⊥
    collided y is apart =
        let met : collides feed other s ≡ true = rw (clear_before, is) (ap not apart) in
        never_behind x h b e alone (s, met, leads_itself s)

  pub not_colliding : collides (set_renumbered site moved feed) other s ≡ true → ⊥
  not_colliding e =
      let r = differ_both (clear_op_in (set_renumbered site moved feed) s) (clear_op_in other s) e in
      let x = sole_op (set_renumbered site moved feed) s r.0 r.2 in
      let y = sole_op other s r.1 r.3 in
      let old = (becomes site feed moved r.0).0 x.1.0 in
      by_cases (has_op moved old.0)
      (λ m.
      let there : s ≡ record { counter = (stamp_of old.0).counter; site = site } = sym x.0 ∙ ap stamp_of (sym old.2) ∙ new_stamp site moved old.0 m in
      bears_free site other may.free.of_other r.1 y.1.0 (ap (λ (t : Stamp). t.site) (y.0 ∙ there)))
      (λ m.
      let same : old.0 ≡ r.0 = sym (stays site moved old.0 m) ∙ old.2 in
      let h : has_op feed r.0 ≡ true = subst (λ (o : Op). has_op feed o ≡ true) same old.1 in
      let u : has_op moved r.0 ≡ false = subst (λ (o : Op). has_op moved o ≡ false) same m in
      let sole = clear_sole (set_renumbered site moved feed) s (subst (λ (t : Stamp). is_clear_in (set_renumbered site moved feed) t ≡ true) x.0 x.1.1) in
      let others = clear_sole other s (subst (λ (t : Stamp). is_clear_in other t ≡ true) y.0 y.1.1) in
      by_cases (has_op other r.0)
      (λ k. true≢false (sym (tied r.0 r.1 (others.3 r.0 k x.0 ∙ sym (others.3 r.1 y.1.0 y.0))) ∙ r.4))
      (λ k. collided r.0 h x.0 u k (λ p q c. sole.3 p q c ∙ sym (sole.3 r.0 x.1.0 x.0)) r.1 r.3 r.4))

pub nothing_collides : NothingCollides
nothing_collides site feed other moved may s = by_cases (collides (set_renumbered site moved feed) other s) (λ e. absurd (not_colliding site feed other moved may s e)) (λ e. e)
