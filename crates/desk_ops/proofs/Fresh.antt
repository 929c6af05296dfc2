-- A set with one operation more, whose stamp none bears: what is clear.
use Rattle.std.proofs.Common.{◌≡◌, true, false, refl, sym, ◌∙◌, ◌⊎◌, inl, inr}
use Rattle.std.proofs.lemmas.Bool.{true≢false}
use Rattle.desk_ops.specs.declared.op.Op.{Op}
use Rattle.desk_ops.specs.Stamp.{same}
use Rattle.desk_ops.specs.Op.{stamp_of}
use Rattle.desk_ops.specs.OpSet.{OpSet, has_op, with_op, in_order}
use Rattle.desk_ops.specs.Lists.{Among}
use Rattle.desk_ops.specs.Held.{is_borne_in}
use Rattle.desk_ops.specs.Live.{IsClearOp}
use Rattle.desk_ops.proofs.Stamps.{same-true, by_cases}
use Rattle.desk_ops.proofs.Arrive.{among-with_op, with_op-among}
use Rattle.desk_ops.proofs.Ends.{among_held, held_among}
use Rattle.desk_ops.proofs.Joined.{is_clear-with_op_apart, is_clear-with_op_new}
use Rattle.desk_ops.proofs.Bearers.{op_borne}

module _ (h : OpSet) (o : Op) (fresh : is_borne_in h (stamp_of o) ≡ false) where
  pub stamp_apart : (p : Op) → has_op h p ≡ true → same (stamp_of o) (stamp_of p) ≡ false
  stamp_apart p e = by_cases (same (stamp_of o) (stamp_of p)) (λ k. absurd (true≢false (sym (op_borne h (stamp_of o) (p, e, sym (same-true (stamp_of o) (stamp_of p) k))) ∙ fresh))) (λ k. k)

  -- what was clear is
  pub clear_old : (p : Op) → IsClearOp h p → IsClearOp (with_op h o) p
  clear_old p c = (held_among (with_op h o) p (with_op-among h o p (inr (among_held h p c.0))), is_clear-with_op_apart h o (stamp_of p) (stamp_apart p c.0) ∙ c.1)

  -- and what is clear was, or is new
  pub clear_new : (p : Op) → IsClearOp (with_op h o) p → (o ≡ p) ⊎ IsClearOp h p
  clear_new p c = go (among-with_op h o p (among_held (with_op h o) p c.0))
    where
      go : (o ≡ p) ⊎ Among p (in_order h) → (o ≡ p) ⊎ IsClearOp h p
      go (inl e) = inl e
      go (inr m) = let k : has_op h p ≡ true = held_among h p m in inr (k, sym (is_clear-with_op_apart h o (stamp_of p) (stamp_apart p k)) ∙ c.1)

  pub own_clear : IsClearOp (with_op h o) o
  own_clear = (held_among (with_op h o) o (with_op-among h o o (inl refl)), is_clear-with_op_new h o fresh)
