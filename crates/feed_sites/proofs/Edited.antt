-- The edits of a set that one site makes from nothing.
use Rattle.std.proofs.Common.{◌≡◌, ◌⊎◌, inl, inr, ℕ, zero, suc, ◌+◌, ◌<◌, ◌≤◌, ◌==◌, Bool, true, cond, [], ◌∷◌, ◌++◌, Option, Some, None, length, map, take, drop, refl, sym, ap, ap₂, ◌∙◌, subst, arith}
use Rattle.std.specs.Prelude.{nat_le}
use Rattle.std.proofs.Math.Seq.{take-length, drop-length}
use Rattle.std.proofs.lemmas.Bool.Decides.{nat_tests}
use Rattle.std.proofs.lemmas.List.{drop-map, length-map, map-append, take-map}
use Rattle.desk_ops.specs.declared.op.Stamp.{Stamp}
use Rattle.desk_ops.specs.declared.op.Symbol.{Symbol}
use Rattle.desk_ops.specs.declared.op.Key.{Key}
use Rattle.desk_ops.specs.declared.op.Op.{Op}
use Rattle.desk_ops.specs.Stamp.{head}
use Rattle.desk_ops.specs.Op.{Insertion, IsSymbol, IsValue, is_symbol, is_value, stamp_of, target_of}
use Rattle.desk_ops.specs.Order.{key_code}
use Rattle.desk_ops.specs.OrderLaws.{key_code_exact}
use Rattle.desk_ops.specs.OpSet.{OpSet, max_ops, size}
use Rattle.desk_ops.specs.Live.{IsOfLiveInsert}
use Rattle.desk_ops.specs.Shown.{copy_of, shown_of}
use Rattle.desk_ops.specs.Settings.{setting_of}
use Rattle.desk_ops.proofs.Faulty.{none-some}
use Rattle.desk_ops.proofs.Lawful.{symbol_true, value_true}
use Rattle.desk_ops.proofs.Parts.{place_live, some-stamp}
use Rattle.desk_ops.proofs.Stamps.{by_cases}
use Rattle.desk_replica.specs.declared.Refusal.{Refusal}
use Rattle.desk_replica.specs.declared.Refusal.TheVariants as refusals
use Rattle.desk_replica.specs.Edits.{IsInserted, IsSetTo, edit_refusal, insert_refusal, new_insert, parent_at, set_refusal}
use Rattle.desk_replica.specs.State.{State}
use Rattle.desk_replica.proofs.Made.{refused_none}
use Rattle.feed_sites.specs.Anew.{IsOwn, with_value}
use Rattle.feed_sites.proofs.Own.{own_more, size_more}

-- ---- no edit is refused but for memory

-- ---- a setting that is given

module _ (old now : State) (key : Key) (value : ℕ) (op : Op) (own : IsOwn old.site old.ops) (is : IsSetTo old now key value op) where
  pub set_own : IsOwn old.site now.ops
  set_own = subst (IsOwn old.site) (sym is.gained) (own_more old.site old.ops op own (ap stamp_of is.is) is.lawful (λ target hangs. none-some target (sym (ap target_of is.is) ∙ hangs)))

  pub set_size : size now.ops ≡ size old.ops + 1
  set_size = ap size is.gained ∙ size_more old.site old.ops op own (ap stamp_of is.is)

-- ---- a symbol at the end

parent_live : (set : OpSet) (place : ℕ) → (parent_at (shown_of set) place ≡ head) ⊎ IsOfLiveInsert set (parent_at (shown_of set) place)
parent_live set zero = inl refl
parent_live set (suc place) = place_live set place

module _ (old now : State) (place : ℕ) (symbol : Symbol) (op : Op) (last : place ≡ length (copy_of old.ops)) (own : IsOwn old.site old.ops) (is : IsInserted old now place symbol op) where
  hangs : (target : Stamp) → target_of op ≡ Some target → (target ≡ head) ⊎ IsOfLiveInsert old.ops target
  hangs target at = subst (λ (s : Stamp). (s ≡ head) ⊎ IsOfLiveInsert old.ops s) (some-stamp (parent_at (shown_of old.ops) place) target (sym (ap target_of is.is) ∙ at)) (parent_live old.ops place)

  pub insert_own : IsOwn old.site now.ops
  insert_own = subst (IsOwn old.site) (sym is.gained) (own_more old.site old.ops op own (ap stamp_of is.is) is.lawful hangs)

  pub insert_size : size now.ops ≡ size old.ops + 1
  insert_size = ap size is.gained ∙ size_more old.site old.ops op own (ap stamp_of is.is)
