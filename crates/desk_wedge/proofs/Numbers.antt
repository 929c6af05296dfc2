-- Numbers read in range are in range.
use Rattle.std.proofs.Common.{◌≡◌, ℕ, ℤ, ◌≤◌, ◌&&◌, Some}
use Rattle.std.specs.Prelude.{nat_le, pos, negsuc}
use Rattle.std.proofs.lemmas.Bool.{leb-true, and_parts}
use Rattle.std.proofs.lemmas.Option.{cond_some, option_and_then_some}
use Rattle.toml.specs.Data.{Data, as_integer}
use Rattle.desk_wedge.specs.Keys.{number_in, number_of}

in_range : (low high : ℕ) (z : ℤ) (n : ℕ) → number_in low high z ≡ Some n → (low ≤ n) × (n ≤ high)
in_range low high (pos k) n e =
    let parts = cond_some (nat_le low k && nat_le k high) k n e in
    let bounds = and_parts (nat_le low k) (nat_le k high) parts.0 in
    rw (← parts.1) (leb-true low k bounds.0, leb-true k high bounds.1)
in_range low high (negsuc k) n e = cc

-- whatever is read in range is in range
pub number_range : (low high : ℕ) (d : Data) (n : ℕ) → number_of low high d ≡ Some n → (low ≤ n) × (n ≤ high)
number_range low high d n e = option_and_then_some (number_in low high) (as_integer d) n e (λ z was is. in_range low high z n is)
