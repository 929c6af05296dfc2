-- The set of the operations that are moved.
use Rattle.std.proofs.Common.{◌≡◌, ◌∙◌, ℕ, Bool, true, false, not, ◌&&◌, List, refl, sym, ap, subst}
use Rattle.std.specs.Prelude.{◌↔◌, Option, None, Some, IfSome, IfOk, Result, Ok, Err}
use Rattle.std.specs.Option.{ok_or}
use Rattle.std.specs.List.{filter, list_any}
use Rattle.std.proofs.lemmas.Bool.{true≢false}
use Rattle.desk_ops.specs.declared.op.Op.{Op}
use Rattle.desk_ops.specs.declared.op.Stamp.{Stamp}
use Rattle.desk_ops.specs.Op.{stamp_of}
use Rattle.desk_ops.specs.OpSet.{OpSet, has_op, in_order}
use Rattle.desk_ops.specs.Held.{clear_op_in}
use Rattle.desk_ops.specs.Lists.{Among}
use Rattle.desk_ops.proofs.Bearers.{sole_op}
use Rattle.desk_ops.proofs.Deletes.{any_some, some_any}
use Rattle.desk_ops.proofs.Ends.{among_held, held_among}
use Rattle.desk_ops.proofs.Lists.{among-filter, among-filter_from}
use Rattle.feed_sites.specs.Moving.{AreMoved, IsBehind, IsMoved, collides, collides_before, differ, is_from, is_moved, leads_to}

pub ok_of : {T E : Type 0} (P Q : T → Type 0) (o : Option T) (e : E) (r : Result T E) → r ≡ ok_or o e → ((t : T) → P t → Q t) → IfSome o P → IfOk r Q
ok_of P Q (Some t) e r is f h = subst (λ r. IfOk r Q) (sym is) (f t h)
ok_of P Q None e r is f h = subst (λ r. IfOk r Q) (sym is) tt

pub ok_was : {T E : Type 0} (P : T → Type 0) (o : Option T) (e : E) (r : Result T E) (t : T) → r ≡ ok_or o e → r ≡ Ok t → IfSome o P → P t
ok_was P (Some x) e r t is was h = let same : x ≡ t = cc in subst P same h
ok_was P None e r t is was h = absurd (cc)

pub both : (a b : Bool) → (a && b) ≡ true → (a ≡ true) × (b ≡ true)
both true true e = (refl, refl)
both true false e = absurd (true≢false (sym e))
both false b e = absurd (true≢false (sym e))

pub and_true : (a b : Bool) → a ≡ true → b ≡ true → (a && b) ≡ true
and_true a b e f = ap (λ (t : Bool). t && b) e ∙ f

pub not_is : (b : Bool) → not b ≡ true → b ≡ false
not_is true e = absurd (true≢false (sym e))
not_is false e = refl

-- a stamp that collides is borne in the feed
pub differ_first : (one other : Option Op) → differ one other ≡ true → (op : Op) × (one ≡ Some op)
differ_first None other e = absurd (true≢false (sym e))
differ_first (Some op) other e = (op, refl)

pub collides_borne : (feed other : OpSet) (s : Stamp) → collides feed other s ≡ true → (op : Op) × (has_op feed op ≡ true) × (stamp_of op ≡ s)
collides_borne feed other s e =
    let r = differ_first (clear_op_in feed s) (clear_op_in other s) e in
    let q = sole_op feed s r.0 r.1 in
    (r.0, q.1.0, q.0)

module _ (feed other : OpSet) (ops : List Op) (firsts : List (Option ℕ)) (listed : ops ≡ in_order feed)
    (from : (s : Stamp) → is_from firsts s ≡ list_any (collides_before feed other s) ops) where
  in_ops : (op : Op) → has_op feed op ≡ true → Among op ops
  in_ops op h = subst (λ (l : List Op). Among op l) (sym listed) (among_held feed op h)

  ops_in : (op : Op) → Among op ops → has_op feed op ≡ true
  ops_in op m = held_among feed op (subst (λ (l : List Op). Among op l) listed m)

  behind : (s : Stamp) → is_from firsts s ≡ true → IsBehind feed other s
  behind s e =
      let r = any_some (collides_before feed other s) ops (sym (from s) ∙ e) in
      let q = both (collides feed other (stamp_of r.0)) (leads_to (stamp_of r.0) s) r.2 in
      (stamp_of r.0, q.0, q.1)

  reached : (s : Stamp) → IsBehind feed other s → is_from firsts s ≡ true
  reached s (first, there, leads) =
      let r = collides_borne feed other first there in
      let before : collides_before feed other s r.0 ≡ true = subst (λ (t : Stamp). (collides feed other t && leads_to t s) ≡ true) (sym r.2) (and_true (collides feed other first) (leads_to first s) there leads) in
      from s ∙ some_any (collides_before feed other s) ops r.0 (in_ops r.0 r.1) before

  pub are_moved : (moved : OpSet) (list : List Op) → in_order moved ≡ list → list ≡ filter (is_moved firsts other) ops → AreMoved feed other moved
  are_moved moved list is made op = (there, back)
    where
      there : has_op moved op ≡ true → IsMoved feed other op
      there h =
          let m = among-filter (is_moved firsts other) ops op (subst (λ (l : List Op). Among op l) (is ∙ made) (among_held moved op h)) in
          let q = both (is_from firsts (stamp_of op)) (not (has_op other op)) m.1 in
          record { held = ops_in op m.0; alone = not_is (has_op other op) q.1; behind = behind (stamp_of op) q.0 }

      back : IsMoved feed other op → has_op moved op ≡ true
      back h =
          let passes : is_moved firsts other op ≡ true = and_true (is_from firsts (stamp_of op)) (not (has_op other op)) (reached (stamp_of op) h.behind) (ap not h.alone) in
          held_among moved op (subst (λ (l : List Op). Among op l) (sym (is ∙ made)) (among-filter_from (is_moved firsts other) ops op (in_ops op h.held) passes))
