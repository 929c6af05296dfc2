use Rattle.std.proofs.Common.{◌≡◌, ◌⊎◌, inl, inr, refl, ap}
use Rattle.std.specs.Prelude.{Option, Some, None, Err}
use Rattle.std.proofs.lemmas.Result.{err_from_is_err_and}
use Rattle.desk_replica.specs.declared.Refusal.{Refusal}
use Rattle.desk_replica.specs.declared.Refusal.TheVariants as edits
use Rattle.script_world.proofs.world.edit.Goals as goal

refused_by : (cause : Option Refusal) (why : Refusal) (P : Type 0) → (why ≡ edits.NoMemory) ⊎ (cause ≡ Some why) → (why ≡ edits.NoMemory → (cause ≡ None) × P) → ((why ≡ edits.NoMemory) × (cause ≡ None)) ⊎ (cause ≡ Some why)
refused_by cause why P (inl e) memory = inl (e, (memory e).0)
refused_by cause why P (inr e) memory = inr e

pub returns-in_err-made-in-Insert-clause-ops : goal.returns-in_err-made-in-Insert-clause-ops
returns-in_err-made-in-Insert-clause-ops g c =
    let why = c.in_err-made-in-Insert.field-0.0 in
    let p = err_from_is_err_and c.from_residual.result c.from_residual.ensures.1 in
    rw p.1 (rw p.2 (rw c.in-Insert.is (why, refl, refused_by _ why _ c.in_err-made-in-Insert.ensures.refused (λ e. c.in_err-made-in-Insert.ensures.memory (ap Err e)), c.in_err-made-in-Insert.ensures.same)))

pub returns-in_err-made-in-Delete-clause-ops : goal.returns-in_err-made-in-Delete-clause-ops
returns-in_err-made-in-Delete-clause-ops g c =
    let why = c.in_err-made-in-Delete.field-0.0 in
    let p = err_from_is_err_and c.from_residual-in_err-made-in-Delete.result c.from_residual-in_err-made-in-Delete.ensures.1 in
    rw p.1 (rw p.2 (rw c.in-Delete.is (why, refl, refused_by _ why _ c.in_err-made-in-Delete.ensures.refused (λ e. c.in_err-made-in-Delete.ensures.memory (ap Err e)), c.in_err-made-in-Delete.ensures.same)))

pub returns-in_err-made-in-Set-clause-ops : goal.returns-in_err-made-in-Set-clause-ops
returns-in_err-made-in-Set-clause-ops g c =
    let why = c.in_err-made-in-Set.field-0.0 in
    let p = err_from_is_err_and c.from_residual-in_err-made-in-Set.result c.from_residual-in_err-made-in-Set.ensures.1 in
    rw p.1 (rw p.2 (rw c.in-Set.is (why, refl, refused_by _ why _ c.in_err-made-in-Set.ensures.refused (λ e. c.in_err-made-in-Set.ensures.memory (ap Err e)), c.in_err-made-in-Set.ensures.same)))
