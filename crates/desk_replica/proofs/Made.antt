-- A new operation is lawful, and newer than all that is held.
use Rattle.std.proofs.Common.{◌≡◌, ℕ, zero, suc, ◌+◌, ◌<◌, ◌≤◌, Bool, true, false, not, cond, List, [], ◌∷◌, length, refl, sym, ap, ◌∙◌, subst, ◌⊎◌, inl, inr, arith}
use Rattle.std.specs.Prelude.{◌≢◌, ◌==◌, nat_le, Option, Some, None, Result, Ok, Err, IfOk, OnOk, is_err}
use Rattle.std.proofs.lemmas.Bool.{ne_eqb, lt-leb}
use Rattle.desk_ops.proofs.Stamps.{by_cases}
use Rattle.desk_ops.specs.declared.op.Unlawful.TheVariants as unlawful
use Rattle.desk_replica.specs.declared.Refusal.{Refusal}
use Rattle.desk_replica.specs.declared.Refusal.TheVariants as refusal
use Rattle.std.specs.List.{filter}
use Rattle.desk_ops.specs.declared.op.Stamp.{Stamp}
use Rattle.desk_ops.specs.declared.op.Symbol.{Symbol}
use Rattle.desk_ops.specs.declared.op.Key.{Key}
use Rattle.desk_ops.specs.declared.op.Op.{Op}
use Rattle.desk_ops.specs.declared.op.Op.TheVariants.{Delete, Set}
use Rattle.desk_ops.specs.Stamp.{head, IsStamp, max_counter}
use Rattle.desk_ops.specs.Op.{Insertion, stamp_of, is_symbol, is_value, symbol_verdict, IsLawful}
use Rattle.desk_ops.specs.OpSet.{OpSet, with_op, in_order, size, AllLawful, max_ops}
use Rattle.desk_ops.specs.Live.{insert_of}
use Rattle.desk_ops.specs.Held.{is_clear, clear_ops, clear_inserts}
use Rattle.desk_ops.specs.Walk.{walk_from}
use Rattle.desk_ops.specs.Shown.{is_deleted, shown, shown_of}
use Rattle.desk_ops.proofs.Lists.{Each, Each-both, each-filter}
use Rattle.desk_ops.proofs.Scans.{walk-each}
use Rattle.desk_ops.proofs.Means.{insert_stamp}
use Rattle.desk_ops.proofs.Tree.{walk-clear}
use Rattle.desk_ops.proofs.Lawful.{symbol_from, value_from, lawful-stamp}
use Rattle.desk_ops.specs.Held.{greatest_counter, greatest_counter_of}
use Rattle.desk_replica.specs.State.{State, IsKept}
use Rattle.desk_ops.specs.Settings.{setting_of}
use Rattle.desk_ops.specs.Laws.{IsParentAt}
use Rattle.desk_replica.specs.Edits.{new_stamp, parent_at, stamp_at, new_insert, edit_refusal, IsInserted, IsDeleted, IsSetTo}
use Rattle.desk_replica.proofs.Passes.{each-insert}
use Rattle.desk_ops.proofs.Newest.{insert_shows, delete_shows, set_shows}
use Rattle.desk_ops.proofs.NewValues.{setting_new, setting_stays}

-- ---- counters

pub counters : (ops : List Op) (g : ℕ) → greatest_counter ops ≤ g → Each (λ p. (stamp_of p).counter ≤ g) ops
counters [] g le = tt
counters (o ∷ ops) g le = (omega arith, counters ops g (omega arith))

-- ---- the stamps of what is shown

abbrev IsOldStamp : ℕ → Stamp → Type 0
IsOldStamp g s = IsStamp s × (s.counter ≤ g)

shown-old : (h : OpSet) → AllLawful h → Each (λ x. IsOldStamp (greatest_counter_of h) x.stamp) (shown_of h)
unfolding shown clear_inserts clear_ops
shown-old h lawful =
    subst (λ w. Each (λ x. IsOldStamp (greatest_counter_of h) x.stamp) (filter (λ x. not (is_deleted (in_order h) x.stamp)) w)) (sym (walk-clear h lawful))
    (each-filter (λ x. IsOldStamp (greatest_counter_of h) x.stamp) (λ x. not (is_deleted (in_order h) x.stamp)) (walk_from (clear_inserts (in_order h)) head)
    (walk-each (λ x. IsOldStamp (greatest_counter_of h) x.stamp) (clear_inserts (in_order h)) head
    (each-insert (λ x. IsOldStamp (greatest_counter_of h) x.stamp) (λ p. IsOldStamp (greatest_counter_of h) (stamp_of p)) (λ p x k e. subst (IsOldStamp (greatest_counter_of h)) (insert_stamp p x e) k) (clear_ops (in_order h))
    (each-filter (λ p. IsOldStamp (greatest_counter_of h) (stamp_of p)) (λ op. is_clear (in_order h) (stamp_of op)) (in_order h)
    (Each-both IsLawful (λ p. (stamp_of p).counter ≤ greatest_counter_of h) (λ p. IsOldStamp (greatest_counter_of h) (stamp_of p)) (λ p l k. (lawful-stamp p l, k)) (in_order h) lawful (counters (in_order h) (greatest_counter_of h) (omega arith)))))))

parent-ok : (g : ℕ) (xs : List Insertion) (i : ℕ) → Each (λ x. IsOldStamp g x.stamp) xs → ((parent_at xs i ≡ head) ⊎ IsStamp (parent_at xs i)) × ((parent_at xs i).counter < g + 1)
parent-ok g xs zero all = (inl refl, omega arith)
parent-ok g [] (suc i) all = (inl refl, omega arith)
parent-ok g (x ∷ xs) (suc zero) all = let k : x.stamp.counter ≤ g = all.0.1 in (inr all.0.0, omega arith)
parent-ok g (x ∷ xs) (suc (suc i)) all = parent-ok g xs (suc i) all.1

newest : (s : State) → greatest_counter_of s.ops < (new_stamp s).counter
newest s = omega arith

parent_is : (h : OpSet) (place : ℕ) → place ≤ length (shown_of h) → IsParentAt h place (parent_at (shown_of h) place)
parent_is h zero le = inl (refl, refl)
parent_is h (suc j) le = let e : suc j ≡ j + 1 = omega arith in inr (j, e, omega arith, refl)

-- ---- the insert

pub new-lawful : (s : State) (place : ℕ) (symbol : Symbol) → IsKept s.site s.ops → greatest_counter_of s.ops < max_counter → is_symbol symbol ≡ true → IsLawful (insert_of (new_insert s place symbol))
new-lawful s place symbol kept clock is =
    let p = parent-ok (greatest_counter_of s.ops) (shown_of s.ops) place (shown-old s.ops kept.lawful) in
    ((omega arith, omega arith, kept.numbered), p.0, p.1, symbol_from symbol is)

pub inserted : (old after : State) (place : ℕ) (symbol : Symbol) (op : Op) → IsKept old.site old.ops → greatest_counter_of old.ops < max_counter → is_symbol symbol ≡ true → place ≤ length (shown_of old.ops)
    → op ≡ insert_of (new_insert old place symbol) → after.ops ≡ with_op old.ops op → IsInserted old after place symbol op
inserted old after place symbol op kept clock is_value within is gained = record {
  is = is;
  lawful = subst IsLawful (sym is) own;
  gained = gained;
  shows = ap shown_of (gained ∙ ap (with_op old.ops) is)
      ∙ insert_shows old.ops kept.lawful (new_stamp old) (newest old) (parent_at (shown_of old.ops) place) symbol own place (parent_is old.ops place within);
  settings = λ key. ap (λ h. setting_of h key) (gained ∙ ap (with_op old.ops) is) ∙ setting_stays old.ops kept.lawful (insert_of (new_insert old place symbol)) (newest old) key (λ t n e. cc);
}
  where
    own : IsLawful (insert_of (new_insert old place symbol))
    own = new-lawful old place symbol kept clock is_value

-- ---- the delete

at_stamp : (P : Stamp → Type 0) (xs : List Insertion) (i : ℕ) → Each (λ x. P x.stamp) xs → i < length xs → P (stamp_at xs i)
at_stamp P [] i all lt = absurd (omega arith)
at_stamp P (x ∷ xs) zero all lt = all.0
at_stamp P (x ∷ xs) (suc i) all lt = at_stamp P xs i all.1 (omega arith)

pub delete-lawful : (s : State) (place : ℕ) → IsKept s.site s.ops → greatest_counter_of s.ops < max_counter → place < length (shown_of s.ops) → IsLawful (Delete (new_stamp s) (stamp_at (shown_of s.ops) place))
delete-lawful s place kept clock lt =
    let t : IsOldStamp (greatest_counter_of s.ops) (stamp_at (shown_of s.ops) place) = at_stamp (IsOldStamp (greatest_counter_of s.ops)) (shown_of s.ops) place (shown-old s.ops kept.lawful) lt in
    let k : (stamp_at (shown_of s.ops) place).counter ≤ greatest_counter_of s.ops = t.1 in
    ((omega arith, omega arith, kept.numbered), t.0, omega arith)

pub deleted : (old after : State) (place : ℕ) (op : Op) → IsKept old.site old.ops → greatest_counter_of old.ops < max_counter → place < length (shown_of old.ops)
    → op ≡ Delete (new_stamp old) (stamp_at (shown_of old.ops) place) → after.ops ≡ with_op old.ops op → IsDeleted old after place op
deleted old after place op kept clock lt is gained = record {
  is = is;
  lawful = subst IsLawful (sym is) (delete-lawful old place kept clock lt);
  gained = gained;
  shows = ap shown_of (gained ∙ ap (with_op old.ops) is) ∙ delete_shows old.ops kept.lawful (new_stamp old) (newest old) (stamp_at (shown_of old.ops) place) place lt refl;
  settings = λ key. ap (λ h. setting_of h key) (gained ∙ ap (with_op old.ops) is) ∙ setting_stays old.ops kept.lawful (Delete (new_stamp old) (stamp_at (shown_of old.ops) place)) (newest old) key (λ t n e. cc);
}

-- ---- the set

pub set-lawful : (s : State) (key : Key) (value : ℕ) → IsKept s.site s.ops → greatest_counter_of s.ops < max_counter → is_value key value ≡ true → IsLawful (Set (new_stamp s) key value)
set-lawful s key value kept clock is = ((omega arith, omega arith, kept.numbered), value_from key value is)

pub set_to : (old after : State) (key : Key) (value : ℕ) (op : Op) → IsKept old.site old.ops → greatest_counter_of old.ops < max_counter → is_value key value ≡ true
    → op ≡ Set (new_stamp old) key value → after.ops ≡ with_op old.ops op → IsSetTo old after key value op
set_to old after key value op kept clock is_one is gained = record {
  is = is;
  lawful = subst IsLawful (sym is) (set-lawful old key value kept clock is_one);
  gained = gained;
  shows = ap shown_of (gained ∙ ap (with_op old.ops) is) ∙ set_shows old.ops kept.lawful (new_stamp old) (newest old) key value;
  sets = ap (λ h. setting_of h key) (gained ∙ ap (with_op old.ops) is) ∙ setting_new old.ops kept.lawful (new_stamp old) (newest old) key value;
  others = λ k other. ap (λ h. setting_of h k) (gained ∙ ap (with_op old.ops) is) ∙ setting_stays old.ops kept.lawful (Set (new_stamp old) key value) (newest old) k (λ t n e. other (sym (set_key e)));
}
  where
    set_key : {k : Key} {t : Stamp} {n : ℕ} → Set (new_stamp old) key value ≡ Set t k n → key ≡ k
    set_key e = cc

-- what holds of the operation that was to be added holds of the one answered
pub on_made : (P : Op → Type 0) (r : Result Op Refusal) (h after : OpSet) (o : Op) → IfOk r (λ p. p ≡ o) → OnOk r (after ≡ with_op h o) → (after ≡ with_op h o → P o) → IfOk r P
on_made P (Ok p) h after o is ok f = subst P (sym is) (f ok)
on_made P (Err e) h after o is ok f = tt

-- ---- refusals, in their order

abbrev by_size : Bool → OpSet → Option Refusal
by_size full ops = cond full (Some refusal.Full) (cond (nat_le max_counter (greatest_counter_of ops)) (Some refusal.ClockFull) None)

clock_free : (ops : OpSet) → size ops ≢ max_ops → edit_refusal ops true true ≡ by_size false ops
clock_free ops e = let k : (size ops == max_ops) ≡ false = ne_eqb (size ops) max_ops e in ap (λ b. by_size b ops) k

pub refused_none : (ops : OpSet) → size ops ≢ max_ops → greatest_counter_of ops < max_counter → edit_refusal ops true true ≡ None
refused_none ops e lt = clock_free ops e ∙ ap (λ b. cond b (Some refusal.ClockFull) None) (lt-leb max_counter (greatest_counter_of ops) lt)

pub symbol_is : (y : Symbol) (b : Bool) → b ≡ is_err (symbol_verdict y) → b ≡ false → is_symbol y ≡ true
symbol_is y b e f = by_cases (is_symbol y) (λ k. k) (λ k. let g : true ≡ false = sym (ap (λ t. is_err (cond t (Ok tt) (Err unlawful.Symbol))) k) ∙ sym e ∙ f in cc)
