-- What a status says of a run.
use Rattle.std.proofs.Common.{◌≡◌, ap, subst, sym, ◌⊎◌, inl, inr, ℕ, Bool, true, false, refl, arith}
use Rattle.std.specs.Prelude.{Result, Ok, Err, MatchBool, MatchResult, IfErr, IfOk, IsErrOf, OnErr, OnOk}

-- a status is not both
apart : {X : Type 0} (status : ℕ) → status ≡ 0 → status ≡ 1 → X
apart status none one = absurd (omega (arith, none, one))

-- ---- a status with what was written of a fault

-- what holds of a fault
pub said_in : {A E : Type 0} (Done : A → Type 0) (Said : E → Type 0) (r : Result A E) (e : E) → r ≡ Err e → Said e → MatchResult r Done Said
said_in {A = A} {E = E} Done Said r e is said = subst (λ (r : Result A E). MatchResult r Done Said) (sym is) said

-- the status 0
pub ended_of : {A E X : Type 0} (r : Result A E) (Said : E → Type 0) (status : ℕ) → MatchResult r (λ _. status ≡ 0) (λ e. (status ≡ 1) × Said e) → OnOk r X → status ≡ 0 → X
ended_of (Ok a) Said status reported x zero = x
ended_of (Err e) Said status reported x zero = apart status zero reported.0

-- the status 1, of a fault of which this was written
pub stop_of : {A E : Type 0} (r : Result A E) (Why Said : E → Type 0) (status : ℕ) → MatchResult r (λ _. status ≡ 0) (λ e. (status ≡ 1) × Said e) → IfErr r Why → status ≡ 1 → (e : E) × Why e × Said e
stop_of (Ok a) Why Said status reported why one = apart status reported one
stop_of (Err e) Why Said status reported why one = (e, why, reported.1)

-- what is known of a fault, by what is left of any, and of this one
pub cut_of : {A E : Type 0} (X Y : Type 0) (r : Result A E) (Own : E → Type 0) (one : E) → IfErr r Own → OnErr r X → (IsErrOf r one → Y) → IfErr r (λ e. Own e × X × (e ≡ one → Y))
cut_of X Y (Ok a) Own one own x y = tt
cut_of X Y (Err e) Own one own x y = (own, x, λ same. y (ap Err same))

-- ---- answers that are yes or no

-- the status of an answer that is yes or no, with what was written of a fault, and of none
abbrev pub EndsSo : {E : Type 0} → Result Bool E → Type 0 → (E → Type 0) → ℕ → Type 0
EndsSo r Quiet Said status = MatchResult r (λ (yes : Bool). (yes ≡ true → status ≡ 0) × (yes ≡ false → status ≡ 1) × Quiet) (λ e. (status ≡ 1) × Said e)

-- the status 0: yes
pub yes_of : {E : Type 0} (r : Result Bool E) (X : Bool → Type 0) (Quiet : Type 0) (Said : E → Type 0) (status : ℕ) → EndsSo r Quiet Said status → IfOk r X → status ≡ 0 → X true
yes_of (Ok true) X Quiet Said status reported x zero = x
yes_of (Ok false) X Quiet Said status reported x zero = apart status zero (reported.1 refl)
yes_of (Err e) X Quiet Said status reported x zero = apart status zero reported.0

-- the status 1: no, or a fault
pub no_of : {E : Type 0} (r : Result Bool E) (X : Bool → Type 0) (Why : E → Type 0) (Quiet : Type 0) (Said : E → Type 0) (status : ℕ) → EndsSo r Quiet Said status → IfOk r X → IfErr r Why → status ≡ 1 → (X false × Quiet) ⊎ ((e : E) × Why e × Said e)
no_of (Ok true) X Why Quiet Said status reported x why one = apart status (reported.0 refl) one
no_of (Ok false) X Why Quiet Said status reported x why one = inl (x, reported.2)
no_of (Err e) X Why Quiet Said status reported x why one = inr (e, why, reported.1)

-- what holds of a yes, and what of a no
pub when_so : (A B : Type 0) (b : Bool) → b ≡ true → A → MatchBool b A B
when_so A B true so a = a
when_so A B false so a = absurd (let f : false ≡ true = so in cc)

pub when_not : (A B : Type 0) (b : Bool) → b ≡ false → B → MatchBool b A B
when_not A B true isnt b = absurd (let f : true ≡ false = isnt in cc)
when_not A B false isnt b = b
