use Rattle.std.proofs.Common.{◌≡◌, length}
use Rattle.program_host.specs.Prompt.{after_blanks}
use Rattle.program_host.proofs.prompted.after_blanks.Given as goal

abbrev pub invariant-loop-rest : goal.invariant-loop-rest
invariant-loop-rest l = after_blanks l.rest ≡ after_blanks l.line

abbrev pub decreases-loop-rest : goal.decreases-loop-rest
decreases-loop-rest l = length l.rest
