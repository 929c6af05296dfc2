-- A stamp, and the name of the page in which it was put.
use Rattle.std.specs.Prelude.{ℕ, refl}
use Rattle.std.specs.Coded.{Coded, code_by, coded×, coded_ℕ}
use Rattle.desk_ops.specs.declared.op.Stamp.{Stamp}

pub record Home : Type 0 where
  pub stamp : Stamp
  pub page : ℕ

abbrev pub home_code : Coded Stamp → Coded Home
home_code stamp =
    code_by (Stamp × ℕ) (coded× stamp coded_ℕ) (λ h. (h.stamp, h.page)) (λ p. record { stamp = p.0; page = p.1 })
    (λ _. refl)
