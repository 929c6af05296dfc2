-- Collisions that are noted, in one pass.
use Rattle.std.proofs.Common.{◌≡◌, ◌∙◌, ℕ, zero, suc, ◌+◌, ◌<◌, Bool, true, false, ◌&&◌, ◌||◌, List, [], ◌∷◌, ◌++◌, length, drop, get_or, refl, sym, ap}
use Rattle.std.specs.Prelude.{Option, None}
use Rattle.std.specs.List.{list_any}
use Rattle.desk_ops.specs.declared.op.Op.{Op}
use Rattle.desk_ops.specs.declared.op.Stamp.{Stamp}
use Rattle.desk_ops.specs.Op.{stamp_of}
use Rattle.desk_ops.specs.OpSet.{OpSet}
use Rattle.desk_ops.specs.declared.op.Op.TheVariants.{Insert}
use Rattle.desk_ops.specs.declared.op.Style.TheVariants.{Roman}
use Rattle.desk_ops.specs.Stamp.{head}
use Rattle.feed_sites.specs.Moving.{collides, collides_before, is_from, is_reached, leads_to}
use Rattle.feed_sites.proofs.Passing.{any_here}

-- what a list is said to have past its end
abbrev pub past_end : Op
past_end = Insert head head (record { style = Roman; ch = 0 })

turned : (a b c : Bool) → ((a || b) || c) ≡ (b || (a || c))
turned true true c = refl
turned true false c = refl
turned false b c = refl

module _ (feed other : OpSet) (ops : List Op) (k : ℕ) (d : Op) (lt : k < length ops) (s stamp : Stamp) (is : stamp ≡ stamp_of (get_or ops k d)) (old new whole : Bool)
    (same : (old || list_any (collides_before feed other s) (drop k ops)) ≡ whole) where
  here : collides_before feed other s (get_or ops k d) ≡ (collides feed other stamp && leads_to stamp s)
  here = ap (λ (t : Stamp). collides feed other t && leads_to t s) (sym is)

  by : (lead : Bool) → (collides feed other stamp && leads_to stamp s) ≡ lead → new ≡ (lead || old) → (new || list_any (collides_before feed other s) (drop (k + 1) ops)) ≡ whole
  by lead e more =
      let rest : Bool = list_any (collides_before feed other s) (drop (k + 1) ops) in
      let first : list_any (collides_before feed other s) (drop k ops) ≡ (lead || rest) = any_here (collides_before feed other s) ops k d lt ∙ ap (λ (b : Bool). b || rest) (here ∙ e) in
      ap (λ (b : Bool). b || rest) more ∙ turned lead old rest ∙ sym (ap (λ (b : Bool). old || b) first) ∙ same

  pub noted : collides feed other stamp ≡ true → new ≡ (leads_to stamp s || old) → (new || list_any (collides_before feed other s) (drop (k + 1) ops)) ≡ whole
  noted holds more = by (leads_to stamp s) (ap (λ (b : Bool). b && leads_to stamp s) holds) more

  pub passed : collides feed other stamp ≡ false → new ≡ old → (new || list_any (collides_before feed other s) (drop (k + 1) ops)) ≡ whole
  passed fails more = by false (ap (λ (b : Bool). b && leads_to stamp s) fails) more
