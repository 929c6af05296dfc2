-- Which faults the reading of keys does not report.
use Rattle.std.proofs.Common.{◌≢◌, ℕ, List, Option, Some, None, Result, Ok, Err, IfErr}
use Rattle.std.specs.Prelude.{ok_or}
use Rattle.toml.specs.Data.{Data, Members, get_member}
use Rattle.desk_wedge.specs.Keys.{◌>>=◌, value_at}

module _ {E : Type 0} (other : E) where
  -- the fault is never this one
  abbrev pub IsNever : {A : Type 0} → Result A E → Type 0
  IsNever r = IfErr r (λ e. e ≢ other)

  pub then_never : {A B : Type 0} (r : Result A E) (f : A → Result B E) → IsNever r → ((a : A) → IsNever (f a)) → IsNever (r >>= f)
  then_never (Ok a) f h g = g a
  then_never (Err e) f h g = h

  pub or_never : {A : Type 0} (o : Option A) (fault : E) → fault ≢ other → IsNever (ok_or o fault)
  or_never None fault h = h
  or_never (Some a) fault h = tt

  pub value_never : {A : Type 0} (name : List ℕ) (missing wrong : E) (read : Data → Option A) (ms : Members) → missing ≢ other → wrong ≢ other
      → IsNever (value_at name missing wrong read ms)
  value_never name missing wrong read ms p q =
      then_never (ok_or (get_member name ms) missing) (λ d. ok_or (read d) wrong)
      (or_never (get_member name ms) missing p) (λ d. or_never (read d) wrong q)

  pub never_err : {A : Type 0} (r : Result A E) → IsNever r → r ≢ Err other
  never_err (Ok a) h e = cc
  never_err (Err f) h e = h (cc)
