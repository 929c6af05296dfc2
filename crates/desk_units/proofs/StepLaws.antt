-- One number of steps leaves less than a step for each space.
use Rattle.std.proofs.Common.{◌≡◌, ℕ, suc, ◌+◌, ◌*◌, ◌<◌, arith}
use Rattle.std.specs.Prelude.{ℤ, pos, negsuc, ◌-ℤ◌, ◌*ℤ◌, ◌≤ℤ◌, ◌<ℤ◌}
use Rattle.std.proofs.lemmas.Int.{ints, by_lt_z}
use Rattle.std.proofs.Math.Nat.{mul-le-mul_left}
use Rattle.desk_units.specs.Widths.{step, steps_of, floor_div, OneNumberOfSteps}

pub steps_are : (rest : ℤ) (n : ℕ) → 0 < n → (pos 0 ≤ℤ (rest -ℤ pos n *ℤ floor_div rest n)) × ((rest -ℤ pos n *ℤ floor_div rest n) <ℤ pos n)
steps_are (pos a) n some = (omega (arith, ints), omega (arith, ints))
steps_are (negsuc a) n some = (omega (arith, ints), omega (arith, ints))

-- two products of n that are less than n apart are the same
pub same_product : (n : ℕ) (a b : ℤ) → (rest : ℤ) → pos 0 ≤ℤ (rest -ℤ pos n *ℤ a) → (rest -ℤ pos n *ℤ a) <ℤ pos n →
    pos 0 ≤ℤ (rest -ℤ pos n *ℤ b) → (rest -ℤ pos n *ℤ b) <ℤ pos n → a <ℤ b → Prim.⊥
same_product n (pos a) (pos b) rest h i j k below =
    let more = mul-le-mul_left {m = suc a} {n = b} n (omega (arith, ints, below)) in omega (arith, ints, h, i, j, k, more)
same_product n (pos a) (negsuc b) rest h i j k below = omega (arith, ints, below)
same_product n (negsuc a) (pos b) rest h i j k below =
    let more = mul-le-mul_left {m = 0} {n = a + b} n (omega arith) in omega (arith, ints, h, i, j, k, more)
same_product n (negsuc a) (negsuc b) rest h i j k below =
    let more = mul-le-mul_left {m = suc b} {n = a} n (omega (arith, ints, below)) in omega (arith, ints, h, i, j, k, more)

pub same_steps : (n : ℕ) (a b : ℤ) → (a <ℤ b → Prim.⊥) → (b <ℤ a → Prim.⊥) → a ≡ b
same_steps n a b up down =
    by_lt_z a b (λ h. absurd (up h)) (λ low. by_lt_z b a (λ h. absurd (down h)) (λ high. omega (arith, ints)))

pub one_number_of_steps : OneNumberOfSteps
one_number_of_steps rest spaces some =
    let are = steps_are rest (step * spaces) (omega arith) in (
      record { not_over = are.0; short = are.1 },
      λ steps h. same_steps spaces (steps_of rest spaces) steps
          (same_product (step * spaces) (steps_of rest spaces) steps rest are.0 are.1 h.not_over h.short)
          (same_product (step * spaces) steps (steps_of rest spaces) rest h.not_over h.short are.0 are.1),
    )
