-- The numbers of rows and positions.
use Rattle.std.proofs.Common.{◌≡◌, ℕ, ◌<◌, [], ltb, false, refl, le-ltb, arith}
use Rattle.desk_signals.specs.Rows.{number_of}

pub no_number : (n : ℕ) → 14 < n → [] ≡ number_of n
no_number n above = let e : ltb n 15 ≡ false = le-ltb _ _ (omega arith) in rw e refl
