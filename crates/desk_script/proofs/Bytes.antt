-- What is answered, or not.
use Rattle.std.proofs.Common.{◌≡◌, ◌∙◌, sym}
use Rattle.std.specs.Prelude.{Result, Ok, Err, OnErr}

pub on_err : {A E P : Type 0} (r : Result A E) → P → OnErr r P
on_err (Ok x) p = tt
on_err (Err e) p = p

-- the fault of a call that failed, by what the result is
pub reported_fault : {V E : Type 0} (result : Result V E) (fault given wanted : E) → result ≡ Err fault → fault ≡ given → result ≡ Err wanted → given ≡ wanted
reported_fault result fault given wanted failed same is = let e : Err fault ≡ Err wanted = sym failed ∙ is in cc
