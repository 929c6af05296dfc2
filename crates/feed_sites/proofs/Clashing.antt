-- Operations that would bear one stamp under the other number.
use Rattle.std.proofs.Common.{◌≡◌, ◌∙◌, ◌≤◌, ℕ, Bool, true, false, not, ◌&&◌, ◌||◌, List, [], ◌∷◌, refl, sym, ap, subst, ◌⊎◌, inl, inr, arith}
use Rattle.std.specs.Prelude.{◌↔◌, ◌==◌}
use Rattle.std.proofs.lemmas.Bool.{true≢false}
use Rattle.std.proofs.lemmas.Bool.Decides.{nat_tests}
use Rattle.desk_ops.specs.declared.op.Op.{Op}
use Rattle.desk_ops.specs.Op.{stamp_of}
use Rattle.desk_ops.specs.OpSet.{OpSet, has_op, in_order}
use Rattle.desk_ops.specs.Order.{op_cmp}
use Rattle.desk_ops.specs.Lists.{Among}
use Rattle.std.specs.declared.cmp.Ordering.TheVariants.{Less}
use Rattle.desk_ops.proofs.Bearers.{counter_not_above}
use Rattle.desk_ops.proofs.Ends.{among_held, held_among}
use Rattle.desk_ops.proofs.Lists.{each-among}
use Rattle.desk_ops.proofs.Means.{IsOrdered, ordered}
use Rattle.desk_ops.proofs.Stamps.{by_cases}
use Rattle.feed_sites.specs.Refusing.{Clash, clash, clashes_with, has_clash}

abbrev Clashing : Op → Op → Type 0
Clashing one other = ((stamp_of one).counter ≡ (stamp_of other).counter) × ((stamp_of one).site ≡ (stamp_of other).site → ⊥)

abbrev ClashIn : List Op → Type 0
ClashIn ops = (one other : Op) × Among one ops × Among other ops × Clashing one other

clash_is : (one other : Op) → clash one other ≡ true → Clashing one other
clash_is one other e = (grind (arith, nat_tests), λ same. grind (arith, nat_tests))

clash_not : (one other : Op) → clash one other ≡ false → (stamp_of one).counter ≡ (stamp_of other).counter → (stamp_of one).site ≡ (stamp_of other).site
clash_not one other e same = grind (arith, nat_tests)

later : (op : Op) (ops : List Op) → ClashIn ops → ClashIn (op ∷ ops)
later op ops (one, other, m, n, c) = (one, other, inr m, inr n, c)

pub cases : (a b : Bool) → (a || b) ≡ true → (a ≡ true) ⊎ (b ≡ true)
cases true b e = inl refl
cases false b e = inr e

none_of : (a b : Bool) → (a || b) ≡ false → (a ≡ false) × (b ≡ false)
none_of true b e = absurd (true≢false e)
none_of false b e = (refl, e)

with_next : (op : Op) (ops : List Op) → clashes_with op ops ≡ true → ClashIn (op ∷ ops)
with_next op [] e = absurd (true≢false (sym e))
with_next op (next ∷ ops) e = (op, next, inl refl, inr (inl refl), clash_is op next e)

found : (ops : List Op) → has_clash ops ≡ true → ClashIn ops
found [] e = absurd (true≢false (sym e))
found (op ∷ ops) e = elim (cases (clashes_with op ops) (has_clash ops) e) [
  | inl here ↦ with_next op ops here
  | inr more ↦ later op ops (found ops more)
]

-- where none follow one another, all of one counter are of one site
abbrev AreOfOneSite : List Op → Type 0
AreOfOneSite ops = (one other : Op) → Among one ops → Among other ops → (stamp_of one).counter ≡ (stamp_of other).counter → (stamp_of one).site ≡ (stamp_of other).site

first_one : (op : Op) (ops : List Op) → IsOrdered (op ∷ ops) → clashes_with op ops ≡ false → AreOfOneSite ops → (other : Op) → Among other ops → (stamp_of op).counter ≡ (stamp_of other).counter → (stamp_of op).site ≡ (stamp_of other).site
first_one op [] up e all other m same = absurd m
first_one op (next ∷ ops) up e all other (inl is) same = clash_not op next e (same ∙ ap (λ (o : Op). (stamp_of o).counter) (sym is)) ∙ ap (λ (o : Op). (stamp_of o).site) is
first_one op (next ∷ ops) up e all other (inr m) same =
    let low : (stamp_of op).counter ≤ (stamp_of next).counter = counter_not_above op next up.0.0 in
    let high : (stamp_of next).counter ≤ (stamp_of other).counter = counter_not_above next other (each-among (λ (p : Op). op_cmp next p ≡ Less) ops other up.1.0 m) in
    let first : (stamp_of op).counter ≡ (stamp_of next).counter = omega (arith, low, high, same) in
    let then : (stamp_of next).counter ≡ (stamp_of other).counter = omega (arith, low, high, same) in
    clash_not op next e first ∙ all next other (inl refl) (inr m) then

more_one : (op : Op) (ops : List Op) → IsOrdered (op ∷ ops) → clashes_with op ops ≡ false → AreOfOneSite ops → AreOfOneSite (op ∷ ops)
more_one op ops up e rest one other m n same = go m n
  where
    first : (other : Op) → Among other ops → (stamp_of op).counter ≡ (stamp_of other).counter → (stamp_of op).site ≡ (stamp_of other).site
    first = first_one op ops up e rest

    go : Among one (op ∷ ops) → Among other (op ∷ ops) → (stamp_of one).site ≡ (stamp_of other).site
    go (inl i) (inl j) = ap (λ (o : Op). (stamp_of o).site) (sym i ∙ j)
    go (inl i) (inr n) = ap (λ (o : Op). (stamp_of o).site) (sym i) ∙ first other n (ap (λ (o : Op). (stamp_of o).counter) i ∙ same)
    go (inr m) (inl j) = sym (first one m (ap (λ (o : Op). (stamp_of o).counter) j ∙ sym same)) ∙ ap (λ (o : Op). (stamp_of o).site) j
    go (inr m) (inr n) = rest one other m n same

pub one_site : (ops : List Op) → IsOrdered ops → has_clash ops ≡ false → AreOfOneSite ops
one_site [] up e = λ one other m n same. absurd m
one_site (op ∷ ops) up e = let apart = none_of (clashes_with op ops) (has_clash ops) e in more_one op ops up apart.0 (one_site ops up.1 apart.1)

pub clash_reported : (moved : OpSet) (ops : List Op) (b : Bool) → b ≡ has_clash ops → ops ≡ in_order moved → (b ≡ true) ↔ Clash moved
clash_reported moved ops b is listed = (there, back)
  where
    has : has_clash (in_order moved) ≡ b
    has = sym (is ∙ ap has_clash listed)

    there : b ≡ true → Clash moved
    there e =
        let r = found (in_order moved) (has ∙ e) in
        (r.0, r.1, held_among moved r.0 r.2, held_among moved r.1 r.3, r.4.0, r.4.1)

    back : Clash moved → b ≡ true
    back (one, other, h, k, same, apart) =
        by_cases b (λ e. e) (λ e. absurd (apart (one_site (in_order moved) (ordered moved) (has ∙ e) one other (among_held moved one h) (among_held moved other k) same)))
