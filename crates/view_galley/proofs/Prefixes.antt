-- A text at whose end more is written.
use Rattle.std.proofs.Common.{◌≡◌, ℕ, Bool, true, false, cond, List, ◌++◌}
use Rattle.std.specs.Io.{StartsWith}
use Rattle.std.proofs.Transfers.{starts_with_of_append, starts_with_of_eq, starts_with_trans}

-- after a text was written at the end, or was not as memory was refused
pub written : (b : Bool) (now was more : List ℕ) → now ≡ cond b (was ++ more) was → StartsWith now was
written true now was more e = starts_with_of_append now was more e
written false now was more e = starts_with_of_eq now was e

pub ruleset prefixes = (written, starts_with_trans, starts_with_of_append, starts_with_of_eq)
