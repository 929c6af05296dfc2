-- What a set shows once operations were added to it: in its order, and where no stamp is forked in one order.
use Rattle.std.proofs.Common.{◌≡◌, ℕ, take, drop, length, List, [], ◌∷◌, sym, ap, ◌∙◌, subst, arith}
use Rattle.std.specs.Prelude.{Result, Ok, Err, OnOk, IfErr, All}
use Rattle.std.specs.List.{AllByRecursion}
use Rattle.std.proofs.lemmas.Bool.{or_right}
use Rattle.std.proofs.lemmas.List.{take-append-drop, take_all}
use Rattle.desk_ops.specs.declared.op.Op.{Op}
use Rattle.desk_ops.specs.Op.{IsLawful}
use Rattle.desk_ops.specs.OpSet.{OpSet, has_op, with_op, with_all, union, in_order, IsWithin, AllLawful}
use Rattle.desk_ops.specs.Held.{IsUnforked}
use Rattle.desk_ops.proofs.Unions.{has_op-union, with_all-append}
use Rattle.desk_ops.proofs.Joined.{within-with_op, lawful-with_op}
use Rattle.desk_ops.proofs.Lists.{Each-take}
use Rattle.desk_held.proofs.Lacking.{lawful_all}
use Rattle.desk_replica.specs.declared.Count.{Count}
use Rattle.desk_held.specs.declared.join.Stopped.{Stopped}
use Rattle.desk_held.specs.Joining.{IsStopped}
use Rattle.desk_replica.specs.Orders.{KeepsOrder, ShareOneOrder}
use Rattle.desk_replica.proofs.Sets.{each-of-all}
use Rattle.desk_replica.proofs.Orders.{kept, total, stands}

within_all : (h : OpSet) (os : List Op) → IsWithin h (with_all h os)
within_all h [] o e = e
within_all h (p ∷ os) o e = within_all (with_op h p) os o (within-with_op h p o e)

-- ---- one operation, or the first of a list

pub kept-one : (h after : OpSet) (o : Op) → AllLawful h → IsLawful o → after ≡ with_op h o → KeepsOrder h after
kept-one h after o l one e = subst (KeepsOrder h) (sym e) (kept h (with_op h o) l (lawful-with_op h o l one) (within-with_op h o))

kept_each : (h : OpSet) (os : List Op) → AllLawful h → AllByRecursion IsLawful os → KeepsOrder h (with_all h os)
kept_each h os l each = kept h (with_all h os) l (lawful_all h os l each) (within_all h os)

pub kept-all : (h after : OpSet) (os : List Op) → AllLawful h → All IsLawful os → after ≡ with_all h os → KeepsOrder h after
kept-all h after os l all e = subst (KeepsOrder h) (sym e) (kept_each h os l (each-of-all os all))

pub kept-first : (h after : OpSet) (os : List Op) (k : ℕ) → AllLawful h → All IsLawful os → after ≡ with_all h (take k os) → KeepsOrder h after
kept-first h after os k l all e = subst (KeepsOrder h) (sym e) (kept_each h (take k os) l (Each-take IsLawful k os (each-of-all os all)))

-- ---- another set's operations, all of them or the first

module _ (h g after : OpSet) (lh : AllLawful h) (lg : AllLawful g) (os : List Op) (list : os ≡ in_order g) (r : Result Count Stopped)
    (ok : OnOk r (after ≡ with_all h os)) (stopped : IfErr r (λ s. IsStopped h after os s)) where
  first : (q : Result Count Stopped) → OnOk q (after ≡ with_all h os) → IfErr q (λ s. IsStopped h after os s) → (k : ℕ) × (after ≡ with_all h (take k os))
  first (Ok c) e s = (length os, e ∙ ap (with_all h) (sym (take_all (length os) os (omega arith))))
  first (Err t) e s = (t.taken, s.gained)

  part : (k : ℕ) × (after ≡ with_all h (take k (in_order g)))
  part = subst (λ (l : List Op). (k : ℕ) × (after ≡ with_all h (take k l))) list (first r ok stopped)

  lawful : AllLawful after
  lawful = subst AllLawful (sym part.1) (lawful_all h (take part.0 (in_order g)) lh (Each-take IsLawful part.0 (in_order g) lg))

  rest : with_all (with_all h (take part.0 (in_order g))) (drop part.0 (in_order g)) ≡ union h g
  rest = sym (with_all-append h (take part.0 (in_order g)) (drop part.0 (in_order g))) ∙ ap (with_all h) (take-append-drop part.0 (in_order g))

  in_union : IsWithin after (union h g)
  in_union = subst (λ (k : OpSet). IsWithin k (union h g)) (sym part.1)
      (subst (IsWithin (with_all h (take part.0 (in_order g)))) rest (within_all (with_all h (take part.0 (in_order g))) (drop part.0 (in_order g))))

  other-in : IsWithin g (union h g)
  other-in o e = has_op-union h g o ∙ or_right (has_op h o) (has_op g o) e

  union-lawful : AllLawful (union h g)
  union-lawful = lawful_all h (in_order g) lh lg

  pub merge-order : KeepsOrder h after
  merge-order = subst (KeepsOrder h) (sym part.1) (kept_each h (take part.0 (in_order g)) lh (Each-take IsLawful part.0 (in_order g) lg))

  pub merge-other : OnOk r (KeepsOrder g after)
  merge-other = go r ok
    where
      go : (q : Result Count Stopped) → OnOk q (after ≡ with_all h os) → OnOk q (KeepsOrder g after)
      go (Ok c) e = subst (KeepsOrder g) (sym (e ∙ ap (with_all h) list)) (kept g (union h g) lg union-lawful other-in)
      go (Err t) e = tt

  pub merge-one : IsUnforked (union h g) → ShareOneOrder h g after
  merge-one f = record {
    total = total (union h g) union-lawful f;
    old = stands (union h g) h union-lawful lh f (within_all h (in_order g));
    other = stands (union h g) g union-lawful lg f other-in;
    after = stands (union h g) after union-lawful lawful f in_union;
  }
