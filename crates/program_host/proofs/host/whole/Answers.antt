use Rattle.std.proofs.Common.{rules, ◌≡◌, ◌≤◌, length, subst}
use Rattle.std.specs.Prelude.{IfSome}
use Rattle.program_host.proofs.Limits.{limited}
use Rattle.program_host.proofs.host.whole.Goals as goal

pub returns-clause-bytes : goal.returns-clause-bytes
returns-clause-bytes g c =
    let few : length c.read_to_end.new.buf.items ≤ 67108864 = search rules in
    subst (λ r. IfSome (g.R.Read.remaining r) (λ input. c.read_to_end.new.buf.items ≡ input)) c.take-prefix.ensures.inner
    (limited (g.R.Read.remaining c.take-prefix.result.inner) 67108864 c.take-prefix.result.limit c.new-bytes.result.items c.read_to_end.new.buf.items
    c.take-prefix.ensures.limit c.new-bytes.ensures.items c.in_ok-read_to_end.ensures.bytes few)
