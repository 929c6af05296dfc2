-- Operations under another number are lawful.
use Rattle.std.proofs.Common.{◌≡◌, ◌∙◌, ◌≤◌, ◌<◌, ◌⊎◌, inl, inr, ℕ, Bool, true, false, refl, ap, subst, arith}
use Rattle.std.specs.Prelude.{if◌then◌else◌}
use Rattle.std.proofs.lemmas.Bool.{true≢false}
use Rattle.desk_ops.specs.declared.op.Stamp.{Stamp}
use Rattle.desk_ops.specs.declared.op.Op.{Op}
use Rattle.desk_ops.specs.declared.op.Op.TheVariants as kinds
use Rattle.desk_ops.specs.Stamp.{IsStamp, head}
use Rattle.desk_ops.specs.Op.{IsLawful, stamp_of}
use Rattle.desk_ops.specs.OpSet.{OpSet, AllLawful, has_op, in_order}
use Rattle.desk_ops.specs.Held.{is_borne_in}
use Rattle.desk_ops.proofs.Lawful.{lawful-stamp}
use Rattle.desk_ops.proofs.Lists.{each-among}
use Rattle.desk_ops.proofs.Ends.{among_held}
use Rattle.desk_ops.proofs.Bearers.{borne_op}
use Rattle.feed_sites.specs.Moving.{op_under, stamp_under}

numbered_by : (site : ℕ) (s : Stamp) (b : Bool) → 1 ≤ site → IsStamp s → IsStamp (if b then record { counter = s.counter; site = site } else s)
numbered_by site s true numbered is = (is.0, is.1, numbered)
numbered_by site s false numbered is = is

counter_by : (site : ℕ) (s : Stamp) (b : Bool) → (if b then record { counter = s.counter; site = site } else s).counter ≡ s.counter
counter_by site s true = refl
counter_by site s false = refl

module _ (site : ℕ) (moved : OpSet) (numbered : 1 ≤ site) (lawful : AllLawful moved) where
  stamp_numbered : (s : Stamp) → IsStamp s → IsStamp (stamp_under site moved s)
  stamp_numbered s is = numbered_by site s (is_borne_in moved s) numbered is

  pub same_counter : (s : Stamp) → (stamp_under site moved s).counter ≡ s.counter
  same_counter s = counter_by site s (is_borne_in moved s)

  head_by : (b : Bool) → (b ≡ true → ⊥) → (if b then record { counter = head.counter; site = site } else head) ≡ head
  head_by true never = absurd (never refl)
  head_by false never = refl

  head_stays : stamp_under site moved head ≡ head
  head_stays = head_by (is_borne_in moved head) (λ borne.
      let r = borne_op moved head borne in
      let s : IsStamp (stamp_of r.0) = lawful-stamp r.0 (each-among IsLawful (in_order moved) r.0 lawful (among_held moved r.0 r.1)) in
      let t : IsStamp head = subst IsStamp r.2 s in
      omega (arith, t.0))

  parent_by : (parent : Stamp) → (parent ≡ head) ⊎ IsStamp parent → (stamp_under site moved parent ≡ head) ⊎ IsStamp (stamp_under site moved parent)
  parent_by parent (inl e) = inl (ap (stamp_under site moved) e ∙ head_stays)
  parent_by parent (inr is) = inr (stamp_numbered parent is)

  earlier : (a b : Stamp) → a.counter < b.counter → (stamp_under site moved a).counter < (stamp_under site moved b).counter
  earlier a b lt = let e = same_counter a in let f = same_counter b in omega (arith, e, f, lt)

  pub lawful_under : (op : Op) → IsLawful op → IsLawful (op_under site moved op)
  lawful_under (kinds.Insert stamp parent symbol) (is, there, lt, symbol_is) = (stamp_numbered stamp is, parent_by parent there, earlier parent stamp lt, symbol_is)
  lawful_under (kinds.Delete stamp target) (is, there, lt) = (stamp_numbered stamp is, stamp_numbered target there, earlier target stamp lt)
  lawful_under (kinds.Set stamp key value) (is, value_is) = (stamp_numbered stamp is, value_is)
