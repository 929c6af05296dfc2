-- Local edits: the operation that one makes of a set, and what refuses it.
use Rattle.std.specs.Prelude.{◌≡◌, ℕ, ◌+◌, Bool, true, cond, not, ◌==◌, nat_le, nat_lt, List, ◌∷◌, map, length}
use Rattle.std.specs.Prelude.{slice_index_or, Option, Some, None}
use Rattle.std.specs.List.{insert, remove}
use Rattle.desk_ops.specs.declared.op.Stamp.{Stamp}
use Rattle.desk_ops.specs.declared.op.Symbol.{Symbol}
use Rattle.desk_ops.specs.declared.op.Key.{Key}
use Rattle.desk_ops.specs.declared.op.Op.{Op}
use Rattle.desk_ops.specs.declared.op.Op.TheVariants.{Delete, Set}
use Rattle.desk_ops.specs.Stamp.{head, max_counter}
use Rattle.desk_ops.specs.Op.{IsLawful, Insertion, is_symbol, is_value}
use Rattle.desk_ops.specs.OpSet.{OpSet, with_op, size, max_ops}
use Rattle.desk_ops.specs.Live.{insert_of}
use Rattle.desk_ops.specs.Shown.{shown_of}
use Rattle.desk_ops.specs.Held.{greatest_counter_of}
use Rattle.desk_ops.specs.Settings.{setting_of}
use Rattle.desk_replica.specs.declared.Refusal.{Refusal}
use Rattle.desk_replica.specs.declared.Refusal.TheVariants as refusal
use Rattle.desk_replica.specs.State.{State}

-- later than every operation that is held
abbrev pub new_stamp : State → Stamp
new_stamp s = record { counter = greatest_counter_of s.ops + 1; site = s.site }

-- what an element at a place stands after: the head, or the element shown before it
abbrev pub parent_at : List Insertion → ℕ → Stamp
parent_at shown place = slice_index_or (head ∷ map (λ x. x.stamp) shown) place head

abbrev pub new_insert : State → ℕ → Symbol → Insertion
new_insert s place symbol = record { stamp = new_stamp s; parent = parent_at (shown_of s.ops) place; symbol = symbol }

-- the first cause that holds, out of memory aside
abbrev pub edit_refusal : OpSet → Bool → Bool → Option Refusal
edit_refusal ops is_there is_value =
    cond (not is_there) (Some refusal.Place)
    (cond (not is_value) (Some refusal.Value)
    (cond (size ops == max_ops) (Some refusal.Full)
    (cond (nat_le max_counter (greatest_counter_of ops)) (Some refusal.ClockFull) None)))

abbrev pub insert_refusal : OpSet → ℕ → Symbol → Option Refusal
insert_refusal ops place symbol = edit_refusal ops (nat_le place (length (shown_of ops))) (is_symbol symbol)

abbrev pub delete_refusal : OpSet → ℕ → Option Refusal
delete_refusal ops place = edit_refusal ops (nat_lt place (length (shown_of ops))) true

abbrev pub set_refusal : OpSet → Key → ℕ → Option Refusal
set_refusal ops key value = edit_refusal ops true (is_value key value)

-- no setting changed
abbrev pub SettingsStay : OpSet → OpSet → Type 0
SettingsStay old after = (key : Key) → setting_of after key ≡ setting_of old key

-- exactly this operation was gained, and what is shown gained its element at the place
pub record IsInserted (old after : State) (place : ℕ) (symbol : Symbol) (op : Op) : Type 0 where
  pub is : op ≡ insert_of (new_insert old place symbol)
  pub lawful : IsLawful op
  pub gained : after.ops ≡ with_op old.ops op
  pub shows : shown_of after.ops ≡ insert (shown_of old.ops) place (new_insert old place symbol)
  pub settings : SettingsStay old.ops after.ops

-- the stamp of the element that is shown at the place
abbrev pub stamp_at : List Insertion → ℕ → Stamp
stamp_at shown place = slice_index_or (map (λ x. x.stamp) shown) place head

-- exactly this operation was gained, and what is shown lost the element at the place
pub record IsDeleted (old after : State) (place : ℕ) (op : Op) : Type 0 where
  pub is : op ≡ Delete (new_stamp old) (stamp_at (shown_of old.ops) place)
  pub lawful : IsLawful op
  pub gained : after.ops ≡ with_op old.ops op
  pub shows : shown_of after.ops ≡ remove (shown_of old.ops) place
  pub settings : SettingsStay old.ops after.ops

-- exactly this operation was gained, and the key has the value; the other settings and what is shown stay
pub record IsSetTo (old after : State) (key : Key) (value : ℕ) (op : Op) : Type 0 where
  pub is : op ≡ Set (new_stamp old) key value
  pub lawful : IsLawful op
  pub gained : after.ops ≡ with_op old.ops op
  pub shows : shown_of after.ops ≡ shown_of old.ops
  pub sets : setting_of after.ops key ≡ Some value
  pub others : (k : Key) → (k ≡ key → ⊥) → setting_of after.ops k ≡ setting_of old.ops k
