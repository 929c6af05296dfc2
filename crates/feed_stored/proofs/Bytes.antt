-- What is written in several calls of `write`.
use Rattle.std.proofs.Common.{ℕ, ◌+◌, ◌-◌, ◌≤◌, List, ◌++◌, length, take, drop, sym, ap, subst, ◌∙◌, arith}
use Rattle.std.specs.Prelude.{Option}
use Rattle.std.specs.Io.KnownBytes.{Appends}
use Rattle.std.proofs.KnownBytes.{Appends-trans}
use Rattle.std.proofs.Math.Seq.{take-add}
use Rattle.std.proofs.lemmas.List.{take-take, length-take}

pub record Sends (a c : Option (List ℕ)) (bytes : List ℕ) (count : ℕ) : Type 0 where
  pub within : count ≤ length bytes
  pub sent : Appends a c (take count bytes)

-- a write of n of the bytes that are left
pub sends_more : (a b c : Option (List ℕ)) (bytes : List ℕ) (sent n : ℕ) → sent ≤ length bytes → n ≤ length (take (length bytes - sent) (drop sent bytes)) → Appends a b (take sent bytes) → Appends b c (take n (take (length bytes - sent) (drop sent bytes))) → Sends a c bytes (sent + n)
sends_more a b c bytes sent n within bound first second =
    let room : n ≤ length bytes - sent = omega (arith, bound, length-take (length bytes - sent) (drop sent bytes)) in
    record {
      within = omega arith;
      sent = subst (Appends a c) (ap (λ l. take sent bytes ++ l) (take-take n (length bytes - sent) (drop sent bytes) room) ∙ sym (take-add sent n bytes)) (Appends-trans a b c _ _ first second);
    }
