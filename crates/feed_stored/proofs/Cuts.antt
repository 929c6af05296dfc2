-- Texts that are cut at their first byte of a kind, and the bytes of decimals.
use Rattle.std.proofs.Common.{◌≡◌, ℕ, zero, suc, ◌+◌, ◌<◌, ◌^◌, ◌%◌, List, [], ◌∷◌, ◌++◌, length, get_or, refl, ap₂, arith}
use Rattle.std.specs.Prelude.{◌≢◌}
use Rattle.std.specs.Fmt.{decimal}
use Rattle.std.proofs.lemmas.Fmt.{decimal_by_steps}
use Rattle.feed_stored.specs.Text.{Lacks}

lacks_behind : (c b : ℕ) (bs : List ℕ) → Lacks c (b ∷ bs) → Lacks c bs
lacks_behind c b bs lacks i below = lacks (suc i) (omega (arith, below))

lacks_first : (c b : ℕ) (bs : List ℕ) → Lacks c (b ∷ bs) → b ≢ c
lacks_first c b bs lacks = lacks zero (omega arith)

-- a text with the byte does not lack it
pub has_cut : (c : ℕ) (u x : List ℕ) → Lacks c (u ++ c ∷ x) → ⊥
has_cut c [] x lacks = lacks zero (omega arith) refl
has_cut c (b ∷ u) x lacks = has_cut c u x (lacks_behind c b (u ++ c ∷ x) lacks)

-- a text has one first byte of a kind
pub cut_same : (c : ℕ) (u v x y : List ℕ) → Lacks c u → Lacks c v → u ++ c ∷ x ≡ v ++ c ∷ y → (u ≡ v) × (x ≡ y)
cut_same c [] [] x y lu lv e = let tails : x ≡ y = cc in (refl, tails)
cut_same c [] (b ∷ v) x y lu lv e = let first : b ≡ c = cc in absurd (lacks_first c b v lv first)
cut_same c (a ∷ u) [] x y lu lv e = let first : a ≡ c = cc in absurd (lacks_first c a u lu first)
cut_same c (a ∷ u) (b ∷ v) x y lu lv e =
    let first : a ≡ b = cc in
    let behind : u ++ c ∷ x ≡ v ++ c ∷ y = cc in
    let rest = cut_same c u v x y (lacks_behind c a u lu) (lacks_behind c b v lv) behind in
    (ap₂ (λ h t. h ∷ t) first rest.0, rest.1)

-- the same, byte by byte
abbrev pub Free : ℕ → List ℕ → Type 0
Free c [] = Unit {0}
Free c (b ∷ bs) = (b ≢ c) × Free c bs

pub lacks_free : (c : ℕ) (bs : List ℕ) → Free c bs → Lacks c bs
lacks_free c [] free i below = absurd (omega (arith, below))
lacks_free c (b ∷ bs) free zero below = free.0
lacks_free c (b ∷ bs) free (suc i) below = lacks_free c bs free.1 i (omega (arith, below))

free_push : (c : ℕ) (bs : List ℕ) (b : ℕ) → Free c bs → b ≢ c → Free c (bs ++ b ∷ [])
free_push c [] b free other = (other, tt)
free_push c (a ∷ bs) b free other = (free.0, free_push c bs b free.1 other)

free_decimal : (c n : ℕ) → c < 48 → n < 2 ^ 64 → Free c (decimal n)
free_decimal c n low fits =
    decimal_by_steps (λ n ds. Free c ds) (λ n digit. ((λ e. omega (arith, e, low)), tt)) (λ n ds more so_far. free_push c ds (48 + n % 10) so_far (λ e. omega (arith, e, low))) n fits

-- a decimal has digits alone
pub lacks_decimal : (c n : ℕ) → c < 48 → n < 2 ^ 64 → Lacks c (decimal n)
lacks_decimal c n low fits = lacks_free c (decimal n) (free_decimal c n low fits)
