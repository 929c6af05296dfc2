-- A set with one operation more: what bears a stamp, and what is clear.
use Rattle.std.proofs.Common.{◌≡◌, Bool, true, false, cond, ◌||◌, List, [], ◌∷◌, map, refl, sym, ap, ◌∙◌, subst, ◌⊎◌, inl, inr}
use Rattle.std.specs.List.{filter, list_any}
use Rattle.std.proofs.lemmas.Bool.{true≢false, or_right}
use Rattle.std.specs.FinMap as fin
use Rattle.std.specs.FinMap.Entries.{by_order}
use Rattle.std.specs.declared.cmp.Ordering.TheVariants.{Less, Equal, Greater}
use Rattle.desk_ops.specs.declared.op.Stamp.{Stamp}
use Rattle.desk_ops.specs.declared.op.Op.{Op}
use Rattle.desk_ops.specs.Stamp.{same}
use Rattle.desk_ops.specs.Op.{stamp_of, IsLawful}
use Rattle.desk_ops.specs.Order.{op_cmp}
use Rattle.desk_ops.specs.OrderLaws.{op_total, op_antisymmetric}
use Rattle.desk_ops.specs.OpSet.{OpSet, has_op, with_op, in_order, IsWithin, AllLawful}
use Rattle.desk_ops.specs.Lists.{Among}
use Rattle.desk_ops.specs.Held.{bears, bearers, is_one, is_more, is_clear, is_borne, is_clear_in, is_borne_in}
use Rattle.desk_ops.proofs.Stamps.{same-refl, by_cases}
use Rattle.desk_ops.proofs.Lists.{Each, each-among, each-from_among}
use Rattle.desk_ops.proofs.Tree.{filter-hit, filter-miss}
use Rattle.desk_ops.proofs.Arrive.{among-with_op, with_op-among}
use Rattle.desk_ops.proofs.Ends.{among_held, held_among}
use Rattle.desk_ops.proofs.Deletes.{any_some, some_any}

pub same_bool : (a b : Bool) → (a ≡ true → b ≡ true) → (b ≡ true → a ≡ true) → a ≡ b
same_bool true b f g = sym (f refl)
same_bool false true f g = g refl
same_bool false false f g = refl

in_order-with_op : (h : OpSet) (o : Op) → in_order (with_op h o) ≡ map (λ (e : Op × Unit {0}). e.0) (fin.put op_cmp o tt (fin.entries h))
in_order-with_op h o = ap (map (λ (e : Op × Unit {0}). e.0)) (fin.entries-insert op_total h o tt)

-- ---- a stamp that the operation does not bear

filter_put : (p : Op → Bool) (o : Op) (es : List (Op × Unit {0})) → p o ≡ false → filter p (map (λ (e : Op × Unit {0}). e.0) (fin.put op_cmp o tt es)) ≡ filter p (map (λ (e : Op × Unit {0}). e.0) es)
filter_put p o [] h = filter-miss p o [] h
filter_put p o (x ∷ es) h = elim (op_cmp o x.0) as (λ r. filter p (map (λ (e : Op × Unit {0}). e.0) (by_order r ((o, tt) ∷ x ∷ es) ((x.0, tt) ∷ es) (x ∷ fin.put op_cmp o tt es))) ≡ filter p (map (λ (e : Op × Unit {0}). e.0) (x ∷ es))) [
  | Less ↦ filter-miss p o (map (λ (e : Op × Unit {0}). e.0) (x ∷ es)) h
  | Equal ↦ refl
  | Greater ↦ ap (λ l. cond (p x.0) (x.0 ∷ l) l) (filter_put p o es h)
]

pub bearers-with_op_apart : (h : OpSet) (o : Op) (s : Stamp) → same (stamp_of o) s ≡ false → bearers (with_op h o) s ≡ bearers h s
bearers-with_op_apart h o s e = ap (filter (bears s)) (in_order-with_op h o) ∙ filter_put (bears s) o (fin.entries h) e

pub is_clear-with_op_apart : (h : OpSet) (o : Op) (s : Stamp) → same (stamp_of o) s ≡ false → is_clear_in (with_op h o) s ≡ is_clear_in h s
unfolding is_clear
is_clear-with_op_apart h o s e = ap is_one (bearers-with_op_apart h o s e)

-- ---- the stamp that it bears

filter_new : (p : Op → Bool) (o : Op) (es : List (Op × Unit {0})) → p o ≡ true → Each (λ (e : Op × Unit {0}). p e.0 ≡ false) es → filter p (map (λ (e : Op × Unit {0}). e.0) (fin.put op_cmp o tt es)) ≡ o ∷ []
filter_new p o [] h none = filter-hit p o [] h
filter_new p o (x ∷ es) h none = elim (op_cmp o x.0) as (λ r. op_cmp o x.0 ≡ r → filter p (map (λ (e : Op × Unit {0}). e.0) (by_order r ((o, tt) ∷ x ∷ es) ((x.0, tt) ∷ es) (x ∷ fin.put op_cmp o tt es))) ≡ o ∷ []) [
  | Less ↦ λ e. filter-hit p o (map (λ (e : Op × Unit {0}). e.0) (x ∷ es)) h ∙ ap (λ l. o ∷ l) (no_more (x ∷ es) none)
  | Equal ↦ λ e. absurd (true≢false (sym (sym (ap p (op_antisymmetric o x.0 e)) ∙ h) ∙ none.0))
  | Greater ↦ λ e. filter-miss p x.0 (map (λ (e : Op × Unit {0}). e.0) (fin.put op_cmp o tt es)) none.0 ∙ filter_new p o es h none.1
] refl
  where
    no_more : (fs : List (Op × Unit {0})) → Each (λ (e : Op × Unit {0}). p e.0 ≡ false) fs → filter p (map (λ (e : Op × Unit {0}). e.0) fs) ≡ []
    no_more [] n = refl
    no_more (f ∷ fs) n = filter-miss p f.0 (map (λ (e : Op × Unit {0}). e.0) fs) n.0 ∙ no_more fs n.1

none_borne : (s : Stamp) (es : List (Op × Unit {0})) → list_any (bears s) (map (λ (e : Op × Unit {0}). e.0) es) ≡ false → Each (λ (e : Op × Unit {0}). bears s e.0 ≡ false) es
none_borne s [] h = tt
none_borne s (e ∷ es) h = by_cases (bears s e.0)
    (λ k. absurd (true≢false (sym (ap (λ b. b || list_any (bears s) (map (λ (e : Op × Unit {0}). e.0) es)) k) ∙ h)))
    (λ k. (k, none_borne s es (sym (ap (λ b. b || list_any (bears s) (map (λ (e : Op × Unit {0}). e.0) es)) k) ∙ h)))

-- of a new stamp it is the only one
pub bearers-with_op_new : (h : OpSet) (o : Op) → is_borne_in h (stamp_of o) ≡ false → bearers (with_op h o) (stamp_of o) ≡ o ∷ []
unfolding is_borne
bearers-with_op_new h o e = ap (filter (bears (stamp_of o))) (in_order-with_op h o) ∙ filter_new (bears (stamp_of o)) o (fin.entries h) (same-refl (stamp_of o)) (none_borne (stamp_of o) (fin.entries h) e)

pub is_clear-with_op_new : (h : OpSet) (o : Op) → is_borne_in h (stamp_of o) ≡ false → is_clear_in (with_op h o) (stamp_of o) ≡ true
unfolding is_clear
is_clear-with_op_new h o e = ap is_one (bearers-with_op_new h o e)

pub more_from : (os : List Op) (a b : Op) → Among a os → Among b os → (a ≡ b → ⊥) → is_more os ≡ true
more_from [] a b m n f = absurd m
more_from (o ∷ []) a b (inl e) (inl g) f = absurd (f (sym e ∙ g))
more_from (o ∷ []) a b (inl e) (inr n) f = absurd n
more_from (o ∷ []) a b (inr m) n f = absurd m
more_from (o ∷ p ∷ os) a b m n f = refl

-- ---- borne, and the set itself

pub is_borne-with_op : (h : OpSet) (o : Op) (s : Stamp) → is_borne_in (with_op h o) s ≡ (same (stamp_of o) s || is_borne_in h s)
unfolding is_borne
is_borne-with_op h o s = same_bool (is_borne_in (with_op h o) s) (same (stamp_of o) s || is_borne_in h s) to from
  where
    to : list_any (bears s) (in_order (with_op h o)) ≡ true → (same (stamp_of o) s || list_any (bears s) (in_order h)) ≡ true
    to e = found (any_some (bears s) (in_order (with_op h o)) e)
      where
        found : ((p : Op) × Among p (in_order (with_op h o)) × (bears s p ≡ true)) → (same (stamp_of o) s || list_any (bears s) (in_order h)) ≡ true
        found r = which (among-with_op h o r.0 r.1)
          where
            which : (o ≡ r.0) ⊎ Among r.0 (in_order h) → (same (stamp_of o) s || list_any (bears s) (in_order h)) ≡ true
            which (inl i) = ap (λ b. b || list_any (bears s) (in_order h)) (ap (bears s) i ∙ r.2)
            which (inr m) = or_right (same (stamp_of o) s) (list_any (bears s) (in_order h)) (some_any (bears s) (in_order h) r.0 m r.2)

    from : (same (stamp_of o) s || list_any (bears s) (in_order h)) ≡ true → list_any (bears s) (in_order (with_op h o)) ≡ true
    from e = by_cases (same (stamp_of o) s)
        (λ k. some_any (bears s) (in_order (with_op h o)) o (with_op-among h o o (inl refl)) k)
        (λ k. found (any_some (bears s) (in_order h) (sym (ap (λ b. b || list_any (bears s) (in_order h)) k) ∙ e)))
      where
        found : ((p : Op) × Among p (in_order h) × (bears s p ≡ true)) → list_any (bears s) (in_order (with_op h o)) ≡ true
        found r = some_any (bears s) (in_order (with_op h o)) r.0 (with_op-among h o r.0 (inr r.1)) r.2

pub has_op-with_op_own : (h : OpSet) (o : Op) → has_op (with_op h o) o ≡ true
has_op-with_op_own h o = held_among (with_op h o) o (with_op-among h o o (inl refl))

pub with-cases : (h : OpSet) (o q : Op) → has_op (with_op h o) q ≡ true → (o ≡ q) ⊎ (has_op h q ≡ true)
with-cases h o q e = go (among-with_op h o q (among_held (with_op h o) q e))
  where
    go : (o ≡ q) ⊎ Among q (in_order h) → (o ≡ q) ⊎ (has_op h q ≡ true)
    go (inl i) = inl i
    go (inr m) = inr (held_among h q m)

pub within-with_op : (h : OpSet) (o : Op) → IsWithin h (with_op h o)
within-with_op h o p e = held_among (with_op h o) p (with_op-among h o p (inr (among_held h p e)))

pub lawful-with_op : (h : OpSet) (o : Op) → AllLawful h → IsLawful o → AllLawful (with_op h o)
lawful-with_op h o all one = each-from_among IsLawful (in_order (with_op h o)) (λ p m. go p (among-with_op h o p m))
  where
    go : (p : Op) → (o ≡ p) ⊎ Among p (in_order h) → IsLawful p
    go p (inl e) = subst IsLawful e one
    go p (inr m) = each-among IsLawful (in_order h) p all m
