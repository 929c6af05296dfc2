-- Sets that gained operations: what they hold, and that it is lawful.
use Rattle.std.proofs.Common.{◌≡◌, ℕ, zero, suc, true, ◌||◌, List, [], ◌∷◌, take, sym, ap, ◌∙◌, subst, ◌⊎◌, inl, inr}
use Rattle.std.specs.Prelude.{All, Result, Ok, Err}
use Rattle.std.specs.List.{list_any}
use Rattle.std.specs.Ordering.{eq_by_cmp}
use Rattle.desk_ops.specs.declared.op.Op.{Op}
use Rattle.desk_ops.specs.Op.{IsLawful}
use Rattle.desk_ops.specs.Order.{op_cmp}
use Rattle.desk_ops.specs.OpSet.{OpSet, has_op, with_op, with_all, in_order, AllLawful}
use Rattle.desk_ops.specs.Lists.{Among}
use Rattle.desk_ops.proofs.Stamps.{by_cases}
use Rattle.desk_ops.proofs.Lists.{each-among, each-from_among}
use Rattle.desk_ops.proofs.Means.{any-among}
use Rattle.desk_ops.proofs.Ends.{among_held, held_among}
use Rattle.desk_ops.proofs.Unions.{has_op-with_all}
use Rattle.desk_ops.proofs.Joined.{lawful-with_op, within-with_op}
use Rattle.desk_replica.specs.declared.Count.{Count}
use Rattle.desk_replica.specs.State.{State}
use Rattle.desk_replica.proofs.Sets.{each-of-all}
use Rattle.script_world.specs.declared.world.Answer.{Answer}
use Rattle.script_world.specs.declared.world.StepRefusal.{StepRefusal}
use Rattle.script_world.specs.declared.world.LocalEdit.{LocalEdit}
use Rattle.script_world.specs.declared.world.LocalEdit.TheVariants as kinds
use Rattle.script_world.specs.World.{Gains, Edits, IsEdited}

among-take : (n : ℕ) (ops : List Op) (op : Op) → Among op (take n ops) → Among op ops
among-take zero [] op m = absurd m
among-take zero (o ∷ ops) op m = absurd m
among-take (suc n) [] op m = absurd m
among-take (suc n) (o ∷ ops) op (inl e) = inl e
among-take (suc n) (o ∷ ops) op (inr m) = inr (among-take n ops op m)

within_all : (set : OpSet) (ops : List Op) (op : Op) → has_op set op ≡ true → has_op (with_all set ops) op ≡ true
within_all set [] op k = k
within_all set (o ∷ ops) op k = within_all (with_op set o) ops op (within-with_op set o op k)

all_from : (set : OpSet) (ops : List Op) (op : Op) → has_op (with_all set ops) op ≡ true → (has_op set op ≡ true) ⊎ Among op ops
all_from set ops op k = by_cases (list_any (eq_by_cmp op_cmp op) ops)
    (λ e. inr (any-among op ops e))
    (λ e. inl (sym (has_op-with_all set ops op ∙ ap (λ b. b || has_op set op) e) ∙ k))

-- ---- of a list, or of its first

pub gains_keep : (set : OpSet) (ops : List Op) (r : Result Count StepRefusal) (after : OpSet) → Gains set ops r after → (op : Op) → has_op set op ≡ true → has_op after op ≡ true
gains_keep set ops (Ok count) after g op k = ap (λ h. has_op h op) g.0 ∙ within_all set ops op k
gains_keep set ops (Err why) after g op k = ap (λ h. has_op h op) g.2.gained ∙ within_all set (take g.0.taken ops) op k

pub gains_from : (set : OpSet) (ops : List Op) (r : Result Count StepRefusal) (after : OpSet) → Gains set ops r after → (op : Op) → has_op after op ≡ true → (has_op set op ≡ true) ⊎ Among op ops
gains_from set ops (Ok count) after g op k = all_from set ops op (sym (ap (λ h. has_op h op) g.0) ∙ k)
gains_from set ops (Err why) after g op k = first (all_from set (take g.0.taken ops) op (sym (ap (λ h. has_op h op) g.2.gained) ∙ k))
  where
    first : (has_op set op ≡ true) ⊎ Among op (take g.0.taken ops) → (has_op set op ≡ true) ⊎ Among op ops
    first (inl k) = inl k
    first (inr m) = inr (among-take g.0.taken ops op m)

pub gains_lawful : (set : OpSet) (ops : List Op) (r : Result Count StepRefusal) (after : OpSet) → AllLawful set → All IsLawful ops → Gains set ops r after → AllLawful after
gains_lawful set ops r after lawful all g = each-from_among IsLawful (in_order after) (λ o m. one o (gains_from set ops r after g o (held_among after o m)))
  where
    one : (o : Op) → (has_op set o ≡ true) ⊎ Among o ops → IsLawful o
    one o (inl k) = each-among IsLawful (in_order set) o lawful (among_held set o k)
    one o (inr m) = each-among IsLawful ops o (each-of-all ops all) m

-- ---- of an edit

edited_lawful : (s t : State) (edit : LocalEdit) (op : Op) → AllLawful s.ops → IsEdited s t edit op → AllLawful t.ops
edited_lawful s t (kinds.Insert place symbol) op lawful e = subst AllLawful (sym e.gained) (lawful-with_op s.ops op lawful e.lawful)
edited_lawful s t (kinds.Delete place) op lawful e = subst AllLawful (sym e.gained) (lawful-with_op s.ops op lawful e.lawful)
edited_lawful s t (kinds.Set key value) op lawful e = subst AllLawful (sym e.gained) (lawful-with_op s.ops op lawful e.lawful)

pub edits_lawful : (s t : State) (edit : LocalEdit) (r : Result Answer StepRefusal) → AllLawful s.ops → Edits s edit r t → AllLawful t.ops
edits_lawful s t edit (Ok a) lawful e = edited_lawful s t edit e.0 lawful e.3
edits_lawful s t edit (Err why) lawful e = subst AllLawful (sym e.3) lawful
