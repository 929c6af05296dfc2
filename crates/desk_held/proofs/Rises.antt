-- Stamps that rise: no stamp is borne by two operations, and the other way round.
use Rattle.std.proofs.Common.{◌≡◌, ℕ, ◌+◌, ◌<◌, ◌&&◌, ◌++◌, ◌⊎◌, inl, inr, Bool, true, false, List, [], ◌∷◌, length, take, drop, get_or, refl, sym, ap, subst, ◌∙◌}
use Rattle.std.specs.Prelude.{T, ◌↔◌}
use Rattle.std.specs.Ordering.{is_lt}
use Rattle.std.specs.declared.cmp.Ordering.TheVariants.{Less}
use Rattle.std.specs.List.{AllByRecursion}
use Rattle.std.proofs.Math.Seq.{take-add}
use Rattle.std.proofs.lemmas.Bool.{true≢false, and_parts}
use Rattle.std.proofs.lemmas.Cmp.{tied_itself}
use Rattle.std.proofs.lemmas.List.{take-append-drop, drop_more}
use Rattle.desk_ops.specs.declared.op.Stamp.{Stamp}
use Rattle.desk_ops.specs.declared.op.Op.{Op}
use Rattle.desk_ops.specs.Op.{stamp_of, IsLawful}
use Rattle.desk_ops.specs.Order.{op_cmp}
use Rattle.desk_ops.specs.OrderLaws.{op_total}
use Rattle.desk_ops.specs.OpSet.{has_op, is_rising, from_rising}
use Rattle.desk_ops.specs.Held.{IsUnforked}
use Rattle.desk_ops.specs.Stamp.{before, same, head}
use Rattle.desk_ops.specs.Lists.{Among}
use Rattle.desk_ops.proofs.Stamps.{by_cases, same-true, before-trans, before-irrefl, before-other, before_true}
use Rattle.desk_ops.proofs.OpSets.{in_order-from_rising}
use Rattle.desk_ops.proofs.Lists.{Each, Each-weaker, each-among}
use Rattle.desk_ops.proofs.Means.{IsOrdered}
use Rattle.desk_ops.proofs.Ends.{among_held, held_among}
use Rattle.desk_ops.proofs.Bearers.{stamp_not_before, ordered_rising}
use Rattle.desk_ops.proofs.Parts.{unforked_one, one_unforked}
use Rattle.desk_ops.proofs.Lawful.{lawful-stamp}
use Rattle.desk_held.specs.Rising.{rise_from, last_from}

-- ---- lists put together

pub rise-append : (s : Stamp) (xs ys : List Op) → rise_from s (xs ++ ys) ≡ (rise_from s xs && rise_from (last_from s xs) ys)
rise-append s [] ys = refl
rise-append s (x ∷ xs) ys = ap (λ (b : Bool). before s (stamp_of x) && b) (rise-append (stamp_of x) xs ys) ∙ together (before s (stamp_of x)) (rise_from (stamp_of x) xs) (rise_from (last_from (stamp_of x) xs) ys)
  where
    together : (a b c : Bool) → (a && (b && c)) ≡ ((a && b) && c)
    together true b c = refl
    together false b c = refl

pub last-append : (s : Stamp) (xs ys : List Op) → last_from s (xs ++ ys) ≡ last_from (last_from s xs) ys
last-append s [] ys = refl
last-append s (x ∷ xs) ys = last-append (stamp_of x) xs ys

-- ---- some that stand side by side from a place on

module _ (s last : Stamp) (ops part : List Op) (at : ℕ) (there : part ≡ take (length part) (drop at ops)) (is : last ≡ last_from s (take at ops)) where
  more : take (at + length part) ops ≡ take at ops ++ part
  more = take-add at (length part) ops ∙ ap (λ (os : List Op). take at ops ++ os) (sym there)

  rest : drop at ops ≡ part ++ drop (length part) (drop at ops)
  rest = sym (take-append-drop (length part) (drop at ops)) ∙ ap (λ (os : List Op). os ++ drop (length part) (drop at ops)) (sym there)

  pub part-rises : rise_from s (take at ops) ≡ true → rise_from last part ≡ true → rise_from s (take (at + length part) ops) ≡ true
  part-rises up on =
      ap (rise_from s) more ∙ rise-append s (take at ops) part ∙ ap (λ (b : Bool). b && rise_from (last_from s (take at ops)) part) up
      ∙ ap (λ (t : Stamp). rise_from t part) (sym is) ∙ on

  pub part-last : last_from last part ≡ last_from s (take (at + length part) ops)
  part-last = ap (λ (t : Stamp). last_from t part) is ∙ sym (last-append s (take at ops) part) ∙ ap (last_from s) (sym more)

  pub part-falls : rise_from last part ≡ false → rise_from s ops ≡ false
  part-falls stop =
      ap (rise_from s) (sym (take-append-drop at ops) ∙ ap (λ (os : List Op). take at ops ++ os) rest) ∙ rise-append s (take at ops) (part ++ drop (length part) (drop at ops))
      ∙ ap (λ (t : Stamp). rise_from s (take at ops) && rise_from t (part ++ drop (length part) (drop at ops))) (sym is)
      ∙ ap (λ (b : Bool). rise_from s (take at ops) && b) (rise-append last part (drop (length part) (drop at ops)) ∙ ap (λ (b : Bool). b && rise_from (last_from last part) (drop (length part) (drop at ops))) stop)
      ∙ never (rise_from s (take at ops))
    where
      never : (b : Bool) → (b && false) ≡ false
      never true = refl
      never false = refl

-- one of them alone
pub alone : (ops : List Op) (i : ℕ) (x : Op) → i < length ops → x ≡ get_or ops i x → x ∷ [] ≡ take 1 (drop i ops)
alone ops i x lt is = ap (λ (y : Op). y ∷ []) is ∙ sym (ap (take 1) (drop_more ops i x lt))

-- ---- what it says

-- each is greater than the first
later : (s : Stamp) (ops : List Op) → rise_from s ops ≡ true → Each (λ o. before s (stamp_of o) ≡ true) ops
later s [] up = tt
later s (x ∷ xs) up =
    let b = and_parts (before s (stamp_of x)) (rise_from (stamp_of x) xs) up in
    (b.0, Each-weaker (λ o. before (stamp_of x) (stamp_of o) ≡ true) (λ o. before s (stamp_of o) ≡ true) (λ o e. before-trans s (stamp_of x) (stamp_of o) b.0 e) xs (later (stamp_of x) xs b.1))

one-each : (s : Stamp) (ops : List Op) → rise_from s ops ≡ true → (o p : Op) → Among o ops → Among p ops → stamp_of o ≡ stamp_of p → o ≡ p
one-each s [] up o p m n e = absurd m
one-each s (x ∷ xs) up o p m n e = go (λ k l. one-each (stamp_of x) xs (and_parts (before s (stamp_of x)) (rise_from (stamp_of x) xs) up).1 o p k l e) m n
  where
    on : rise_from (stamp_of x) xs ≡ true
    on = (and_parts (before s (stamp_of x)) (rise_from (stamp_of x) xs) up).1

    apart : (q : Op) → Among q xs → stamp_of x ≡ stamp_of q → ⊥
    apart q k f = before-irrefl (stamp_of x) (subst (λ (t : Stamp). before (stamp_of x) t ≡ true) (sym f) (each-among (λ q. before (stamp_of x) (stamp_of q) ≡ true) xs q (later (stamp_of x) xs on) k))

    go : (Among o xs → Among p xs → o ≡ p) → ((x ≡ o) ⊎ Among o xs) → ((x ≡ p) ⊎ Among p xs) → o ≡ p
    go on_rest (inl a) (inl b) = sym a ∙ b
    go on_rest (inl a) (inr k) = absurd (apart p k (ap stamp_of a ∙ e))
    go on_rest (inr k) (inl b) = absurd (apart o k (ap stamp_of b ∙ sym e))
    go on_rest (inr k) (inr l) = on_rest k l

-- operations in order, of which no two bear one stamp
rise-each : (s : Stamp) (ops : List Op) → IsOrdered ops → Each (λ o. before s (stamp_of o) ≡ true) ops → ((o p : Op) → Among o ops → Among p ops → stamp_of o ≡ stamp_of p → o ≡ p) → rise_from s ops ≡ true
rise-each s [] up late one = refl
rise-each s (x ∷ xs) up late one =
    ap (λ (b : Bool). b && rise_from (stamp_of x) xs) late.0
    ∙ rise-each (stamp_of x) xs up.1 (each-from xs (λ o m. m) up.0) (λ o p m n e. one o p (inr m) (inr n) e)
  where
    less-itself : (o : Op) → op_cmp o o ≡ Less → ⊥
    less-itself o e = true≢false (sym (ap is_lt e) ∙ ap is_lt (tied_itself op_total o))

    after : (o : Op) → Among o xs → op_cmp x o ≡ Less → before (stamp_of x) (stamp_of o) ≡ true
    after o m less =
        before-other (stamp_of o) (stamp_of x) (stamp_not_before x o less)
        (by_cases (same (stamp_of o) (stamp_of x))
        (λ e. absurd (less-itself x (subst (λ (q : Op). op_cmp x q ≡ Less) (one o x (inr m) (inl refl) (same-true (stamp_of o) (stamp_of x) e)) less)))
        (λ e. e))

    each-from : (os : List Op) → ((o : Op) → Among o os → Among o xs) → Each (λ o. op_cmp x o ≡ Less) os → Each (λ o. before (stamp_of x) (stamp_of o) ≡ true) os
    each-from [] within h = tt
    each-from (o ∷ os) within h = (after o (within o (inl refl)) h.0, each-from os (λ q m. within q (inr m)) h.1)

lawful-late : (ops : List Op) → AllByRecursion IsLawful ops → Each (λ o. before head (stamp_of o) ≡ true) ops
lawful-late [] l = tt
lawful-late (o ∷ os) l = (before_true head (stamp_of o) (inl (lawful-stamp o l.0).0), lawful-late os l.1)

module _ (ops : List Op) (rising : T (is_rising ops)) (lawful : AllByRecursion IsLawful ops) where
  of-set : (o : Op) → has_op (from_rising ops) o ≡ true → Among o ops
  of-set o k = subst (Among o) (in_order-from_rising ops rising) (among_held (from_rising ops) o k)

  to-set : (o : Op) → Among o ops → has_op (from_rising ops) o ≡ true
  to-set o m = held_among (from_rising ops) o (subst (Among o) (sym (in_order-from_rising ops rising)) m)

  -- their stamps rise exactly where no stamp is forked
  pub rise-unforked : (rise_from head ops ≡ true) ↔ IsUnforked (from_rising ops)
  rise-unforked = (
    λ up. one_unforked (from_rising ops) (λ o p k l e. one-each head ops up o p (of-set o k) (of-set p l) e),
    λ u. rise-each head ops (ordered_rising ops rising) (lawful-late ops lawful) (λ o p m n e. unforked_one (from_rising ops) u o p (to-set o m) (to-set p n) e),
  )
