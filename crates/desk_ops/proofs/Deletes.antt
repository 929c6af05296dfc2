-- What deletes an element of the walk.
use Rattle.std.proofs.Common.{◌≡◌, Bool, true, ◌||◌, List, [], ◌∷◌, refl, sym, ap, ◌∙◌, subst, inl, inr}
use Rattle.std.specs.List.{list_any}
use Rattle.std.proofs.lemmas.Bool.{true≢false}
use Rattle.std.proofs.Math.Bool.{or-true}
use Rattle.desk_ops.specs.declared.op.Stamp.{Stamp}
use Rattle.desk_ops.specs.declared.op.Op.{Op}
use Rattle.desk_ops.specs.declared.op.Op.TheVariants.{Insert, Delete, Set}
use Rattle.desk_ops.specs.Op.{Insertion}
use Rattle.desk_ops.specs.OpSet.{OpSet, in_order}
use Rattle.desk_ops.specs.Lists.{Among}
use Rattle.desk_ops.specs.Held.{clear_ops}
use Rattle.desk_ops.specs.Walk.{walk_of}
use Rattle.desk_ops.specs.Shown.{deletes, is_deleted, is_deleted_in}
use Rattle.desk_ops.specs.Live.{IsClearOp, IsLiveOp}
use Rattle.desk_ops.proofs.Stamps.{same-true, same-refl, by_cases}
use Rattle.desk_ops.proofs.Tree.{walk-live}
use Rattle.desk_ops.proofs.Ends.{clear_from_op, op_from_clear}

pub any_some : (p : Op → Bool) (os : List Op) → list_any p os ≡ true → (o : Op) × Among o os × (p o ≡ true)
any_some p [] e = absurd (true≢false (sym e))
any_some p (o ∷ os) e =
    by_cases (p o)
    (λ k. (o, inl refl, k))
    (λ k. let r = any_some p os (sym (ap (λ b. b || list_any p os) k) ∙ e) in (r.0, inr r.1, r.2))

pub some_any : (p : Op → Bool) (os : List Op) (o : Op) → Among o os → p o ≡ true → list_any p os ≡ true
some_any p [] o m e = absurd m
some_any p (q ∷ os) o (inl i) e = ap (λ b. b || list_any p os) (ap p i ∙ e)
some_any p (q ∷ os) o (inr m) e = ap (λ b. p q || b) (some_any p os o m e) ∙ or-true (p q)

delete_of : (s : Stamp) (o : Op) → deletes s o ≡ true → (t : Stamp) × (o ≡ Delete t s)
delete_of s (Insert t p y) e = absurd (true≢false (sym e))
delete_of s (Delete t u) e = (t, ap (Delete t) (same-true u s e))
delete_of s (Set t k v) e = absurd (true≢false (sym e))

-- a clear delete of an element of the walk is live
pub delete_live : (h : OpSet) (x : Insertion) → Among x (walk_of h) → (s : Stamp) → IsClearOp h (Delete s x.stamp) → IsLiveOp h (Delete s x.stamp)
delete_live h x m s c = (c, (x, walk-live (in_order h) x m, refl))

pub deleted_from : (h : OpSet) (s : Stamp) → is_deleted_in h s ≡ true → (t : Stamp) × IsClearOp h (Delete t s)
unfolding is_deleted
deleted_from h s e = go (any_some (deletes s) (clear_ops (in_order h)) e)
  where
    go : ((o : Op) × Among o (clear_ops (in_order h)) × (deletes s o ≡ true)) → (t : Stamp) × IsClearOp h (Delete t s)
    go r = let d = delete_of s r.0 r.2 in (d.0, subst (IsClearOp h) d.1 (op_from_clear h r.0 r.1))

pub deleted_by : (h : OpSet) (s : Stamp) → (t : Stamp) × IsClearOp h (Delete t s) → is_deleted_in h s ≡ true
unfolding is_deleted
deleted_by h s r = some_any (deletes s) (clear_ops (in_order h)) (Delete r.0 s) (clear_from_op h (Delete r.0 s) r.1) (same-refl s)

pub deleted_live : (h : OpSet) (x : Insertion) → Among x (walk_of h) → is_deleted_in h x.stamp ≡ true → (s : Stamp) × IsLiveOp h (Delete s x.stamp)
deleted_live h x m e = let d = deleted_from h x.stamp e in (d.0, delete_live h x m d.0 d.1)

pub live_deleted : (h : OpSet) (x : Insertion) → (s : Stamp) × IsLiveOp h (Delete s x.stamp) → is_deleted_in h x.stamp ≡ true
live_deleted h x l = deleted_by h x.stamp (l.0, l.1.0)
