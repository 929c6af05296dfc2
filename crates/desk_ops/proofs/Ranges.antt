-- Numbers that follow one another, and those of them that pass a test.
use Rattle.std.proofs.Common.{◌≡◌, ℕ, zero, suc, ◌+◌, ◌<◌, ◌≤◌, Bool, true, false, cond, List, [], ◌∷◌, ◌++◌, refl, ap, ◌∙◌, inl, inr, arith, add-zero}
use Rattle.std.specs.List.{filter, range_with_len}
use Rattle.std.proofs.Math.Nat.{eq-or-lt_of_le}
use Rattle.desk_ops.specs.Lists.{Among, RiseFrom}

pub range_suc : (a n : ℕ) → range_with_len a (suc n) ≡ range_with_len a n ++ (a + n) ∷ []
range_suc a zero = rw add-zero refl
range_suc a (suc n) =
    let e : a + 1 + n ≡ a + suc n = omega arith in
    ap (λ l. a ∷ l) (range_suc (a + 1) n ∙ ap (λ k. range_with_len (a + 1) n ++ k ∷ []) e)

rise_from_less : (low : ℕ) (numbers : List ℕ) → RiseFrom (low + 1) numbers → RiseFrom low numbers
rise_from_less low [] rise = tt
rise_from_less low (n ∷ numbers) rise = (omega (arith, rise.0), rise.1)

pub rise_of : (p : ℕ → Bool) (a n : ℕ) → RiseFrom a (filter p (range_with_len a n))
rise_of p a zero = tt
rise_of p a (suc n) =
    elim (p a) as (λ b. RiseFrom a (cond b (a ∷ filter p (range_with_len (a + 1) n)) (filter p (range_with_len (a + 1) n)))) [
      | true ↦ (omega arith, rise_of p (a + 1) n)
      | false ↦ rise_from_less a (filter p (range_with_len (a + 1) n)) (rise_of p (a + 1) n)
    ]

pub range_among : (a n k : ℕ) → Among k (range_with_len a n) → (a ≤ k) × (k < a + n)
range_among a zero k m = absurd m
range_among a (suc n) k (inl e) = (omega (arith, e), omega (arith, e))
range_among a (suc n) k (inr m) = let h = range_among (a + 1) n k m in (omega (arith, h), omega (arith, h))

pub among_range : (a n k : ℕ) → a ≤ k → k < a + n → Among k (range_with_len a n)
among_range a zero k low high = absurd (omega (arith, low, high))
among_range a (suc n) k low high = elim (eq-or-lt_of_le low) [ inl e ↦ inl e | inr lt ↦ inr (among_range (a + 1) n k (omega (arith, lt)) (omega (arith, high))) ]
