use Rattle.std.proofs.Common.{◌≡◌, ◌++◌, string_bytes, drop}
use Rattle.view_proof.specs.Reasons.{more_names}
use Rattle.view_proof.proofs.reasons.put_more_names.Given as goal

abbrev pub invariant-loop-at : goal.invariant-loop-at
invariant-loop-at g l = string_bytes l.out ++ more_names (drop l.at l.keys) ≡ string_bytes l.fn.out ++ more_names l.keys
