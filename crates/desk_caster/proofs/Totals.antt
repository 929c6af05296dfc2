-- Totals of lines.
use Rattle.std.proofs.Common.{◌≡◌, ℕ, suc, ◌+◌, ◌<◌, ◌^◌, List, [], ◌∷◌, ◌++◌, length, reverse, sym, ap, subst, ◌∙◌, arith}
use Rattle.std.specs.Prelude.{ℤ, ◌+ℤ◌}
use Rattle.std.proofs.lemmas.Int.{ints}
use Rattle.std.proofs.lemmas.List.{reverse-append}
use Rattle.desk_caster.specs.declared.CastMatrix.{CastMatrix}
use Rattle.desk_caster.specs.Bounds.{IsTotal, IsWithin}

wider_within : (width total wider : ℤ) (n : ℕ) → IsWithin width 1 → IsWithin total n → wider ≡ width +ℤ total → IsWithin wider (suc n)
wider_within width total wider n one many e =
    let a = one.low in let b = one.high in let c = many.low in let d = many.high in
    record { low = omega (arith, ints, a, b, c, d, e); high = omega (arith, ints, a, b, c, d, e) }

-- one matrix more is cast onto the prefix
pub total_grows : (met : List CastMatrix) (m : CastMatrix) (total wider : ℤ) → IsTotal total (reverse met) → IsWithin m.width 1 → wider ≡ m.width +ℤ total → IsTotal wider (reverse (met ++ m ∷ []))
total_grows met m total wider before one e =
    subst (IsTotal wider) (sym (reverse-append met (m ∷ [])))
    (record { sum = e ∙ ap (λ t. m.width +ℤ t) before.sum; within = wider_within m.width total wider (length (reverse met)) one before.within e })

pub sum_fits : (width total : ℤ) (n : ℕ) → IsWithin width 1 → IsWithin total n → n + 1 < 2 ^ 32 → IsWithin (width +ℤ total) (2 ^ 32)
sum_fits width total n one many few =
    let a = one.low in let b = one.high in let c = many.low in let d = many.high in
    record { low = omega (arith, ints, a, b, c, d); high = omega (arith, ints, a, b, c, d) }
