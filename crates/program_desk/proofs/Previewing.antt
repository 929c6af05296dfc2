-- What a proof and a picture leave.
use Rattle.std.proofs.Common.{◌≡◌, ◌≤◌, ◌⊎◌, inl, inr, refl, ℕ, zero, suc, arith}
use Rattle.std.specs.Prelude.{Result, Ok, Err, IfErr, IfOk}

-- what holds beside what is known of an answer
pub shown_of : {A E X : Type 0} (P : A → Type 0) (r : Result A E) → X → IfOk r P → IfOk r (λ a. X × P a)
shown_of P (Ok a) x p = (x, p)
shown_of P (Err e) x p = tt

pub unshown_of : {A E X : Type 0} (P : E → Type 0) (r : Result A E) → X → IfErr r P → IfErr r (λ e. X × P e)
unshown_of P (Ok a) x p = tt
unshown_of P (Err e) x p = (x, p)

-- what holds by a status
pub by_status : (A B : Type 0) (status : ℕ) → status ≤ 1 → (status ≡ 0 → A) → (status ≡ 1 → B) → A ⊎ B
by_status A B zero within none one = inl (none refl)
by_status A B (suc zero) within none one = inr (one refl)
by_status A B (suc (suc n)) within none one = absurd (omega (arith, within))
