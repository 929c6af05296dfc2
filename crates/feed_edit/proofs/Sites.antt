-- Operations of one site, one more at the end.
use Rattle.std.proofs.Common.{◌≡◌, ◌⊎◌, inl, inr, ℕ, ◌+◌, true, List, [], ◌∷◌, ◌++◌, length, refl, sym, ap, ◌∙◌, subst, arith, get_or, take, ◌<◌}
use Rattle.std.proofs.lemmas.List.{take_more}
use Rattle.desk_ops.specs.declared.op.Op.{Op}
use Rattle.desk_ops.specs.Op.{stamp_of}
use Rattle.desk_ops.specs.OpSet.{OpSet, has_op, with_all, with_op}
use Rattle.desk_ops.proofs.Joined.{with-cases, within-with_op}
use Rattle.text_copy.specs.declared.making.Change.{Change}
use Rattle.text_copy.specs.declared.making.Change.TheVariants as changes
use Rattle.feed_edit.specs.Editing.{AreOwn, Extends, delete_count, delete_count_of, deletes_in, deletes_of, insert_count, insert_count_of, inserts_in, inserts_of, stamp_after}

pub own_more : (site : ℕ) (set : OpSet) (ops : List Op) (op : Op) → AreOwn site set ops → stamp_of op ≡ stamp_after site (with_all set ops) → AreOwn site set (ops ++ op ∷ [])
own_more site set [] op own one = (one, tt)
own_more site set (o ∷ ops) op own one = (own.0, own_more site (with_op set o) ops op own.1 one)

-- ---- what was held is held

pub extends_more : (site : ℕ) (old mid now : OpSet) (op : Op) → Extends site old mid → now ≡ with_op mid op → (stamp_of op).site ≡ site → Extends site old now
extends_more site old mid now op extends gained by = record {
  kept = λ other held. subst (λ (s : OpSet). has_op s other ≡ true) (sym gained) (within-with_op mid op other (extends.kept other held));
  own = λ other held. go other (with-cases mid op other (subst (λ (s : OpSet). has_op s other ≡ true) gained held));
}
  where
    go : (other : Op) → (op ≡ other) ⊎ (has_op mid other ≡ true) → (has_op old other ≡ true) ⊎ ((stamp_of other).site ≡ site)
    go other (inl same) = inr (ap (λ (o : Op). (stamp_of o).site) (sym same) ∙ by)
    go other (inr held) = extends.own other held

-- ---- counts

pub inserts_more : (ops : List Op) (op : Op) → inserts_in (ops ++ op ∷ []) ≡ inserts_in ops + insert_count op
inserts_more [] op = omega arith
inserts_more (o ∷ ops) op = let more = inserts_more ops op in omega (arith, more)

pub deletes_more : (ops : List Op) (op : Op) → deletes_in (ops ++ op ∷ []) ≡ deletes_in ops + delete_count op
deletes_more [] op = omega arith
deletes_more (o ∷ ops) op = let more = deletes_more ops op in omega (arith, more)

pub inserts_of_more : (made : List Change) (change : Change) → inserts_of (made ++ change ∷ []) ≡ inserts_of made + insert_count_of change
inserts_of_more [] change = omega arith
inserts_of_more (c ∷ made) change = let more = inserts_of_more made change in omega (arith, more)

pub deletes_of_more : (made : List Change) (change : Change) → deletes_of (made ++ change ∷ []) ≡ deletes_of made + delete_count_of change
deletes_of_more [] change = omega arith
deletes_of_more (c ∷ made) change = let more = deletes_of_more made change in omega (arith, more)

-- each change is an insert or a delete
pub all_counted : (made : List Change) → inserts_of made + deletes_of made ≡ length made
all_counted [] = refl
all_counted (changes.Insert place symbol ∷ made) = let rest = all_counted made in omega (arith, rest)
all_counted (changes.Delete place ∷ made) = let rest = all_counted made in omega (arith, rest)

-- one change more of a list
module _ (made : List Change) (at : ℕ) (d : Change) (lt : at < length made) where
  pub inserts_next : (change : Change) → get_or made at d ≡ change → inserts_of (take (at + 1) made) ≡ inserts_of (take at made) + insert_count_of change
  inserts_next change is = ap inserts_of (take_more made at d lt) ∙ inserts_of_more (take at made) (get_or made at d) ∙ ap (λ c. inserts_of (take at made) + insert_count_of c) is

  pub deletes_next : (change : Change) → get_or made at d ≡ change → deletes_of (take (at + 1) made) ≡ deletes_of (take at made) + delete_count_of change
  deletes_next change is = ap deletes_of (take_more made at d lt) ∙ deletes_of_more (take at made) (get_or made at d) ∙ ap (λ c. deletes_of (take at made) + delete_count_of c) is
