-- What the status of a merge says.
use Rattle.std.proofs.Common.{◌≡◌, inl, inr, sym, ℕ, Bool, true, false, refl, arith}
use Rattle.std.specs.Prelude.{◌⊎◌, Result, Ok, Err, MatchResult, IfErr, IfOk}
use Rattle.std.proofs.lemmas.Bool.{true≢false}
use Rattle.std.specs.Prelude.{List, []}
use Rattle.std.specs.Borrow.{Bor}
use Rattle.clap.specs.Words.{Text}
use Rattle.feed_edit.specs.declared.fault.MergeFault.{MergeFault}
use Rattle.feed_edit.specs.declared.fault.MergeFault.TheVariants as merges
use Rattle.feed_edit.specs.declared.stamps.SiteStamp.{SiteStamp}
use Rattle.program_desk.specs.ByHand.{IsForkLine, status_of}

-- a status is not both
apart : {X : Type 0} (status : ℕ) → status ≡ 0 → status ≡ 1 → X
apart status none one = absurd (omega (arith, none, one))

-- how a merge ends, with what was written of a fault, and of none
abbrev pub EndsMerge : {E : Type 0} → Bool → Result Bool E → Type 0 → (E → Type 0) → ℕ → Type 0
EndsMerge review r Quiet Said status = MatchResult r (λ clean. (status ≡ status_of review clean) × Quiet) (λ e. (status ≡ 1) × Said e)

pub merged_as : {E : Type 0} (review : Bool) (r : Result Bool E) (X : Bool → Type 0) (Quiet : Type 0) (Said : E → Type 0) (status : ℕ) → EndsMerge review r Quiet Said status → IfOk r X → status ≡ 0 → (clean : Bool) × X clean × (review ≡ true → clean ≡ true)
merged_as review (Ok true) X Quiet Said status reported x zero = (true, x, λ _. refl)
merged_as true (Ok false) X Quiet Said status reported x zero = apart status zero reported.0
merged_as false (Ok false) X Quiet Said status reported x zero = (false, x, λ is. absurd (true≢false (sym is)))
merged_as review (Err e) X Quiet Said status reported x zero = apart status zero reported.0

pub not_merged : {E : Type 0} (review : Bool) (r : Result Bool E) (X : Bool → Type 0) (Why : E → Type 0) (Quiet : Type 0) (Said : E → Type 0) (status : ℕ) → EndsMerge review r Quiet Said status → IfOk r X → IfErr r Why → status ≡ 1
    → ((e : E) × Why e × Said e) ⊎ ((review ≡ true) × X false × Quiet)
not_merged true (Ok true) X Why Quiet Said status reported x why one = apart status reported.0 one
not_merged false (Ok true) X Why Quiet Said status reported x why one = apart status reported.0 one
not_merged true (Ok false) X Why Quiet Said status reported x why one = inr (refl, x, reported.1)
not_merged false (Ok false) X Why Quiet Said status reported x why one = apart status reported.0 one
not_merged review (Err e) X Why Quiet Said status reported x why one = inl (e, why, reported.1)

-- another fault has no line on forks
pub no_forks : {A : Type 0} (others : List (Bor Text)) (fault : MergeFault A) → ((at : ℕ) → (stamps : List SiteStamp) → fault ≡ merges.Forks at stamps → ⊥) → IsForkLine others fault []
no_forks others (merges.Take why) none = refl
no_forks others (merges.Other at why) none = refl
no_forks others (merges.Forks at stamps) none = absurd (none at stamps refl)
no_forks others (merges.Keep why) none = refl
