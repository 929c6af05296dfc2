use Rattle.std.proofs.Common.{◌≡◌, drop}
use Rattle.program_host.specs.Prompt.{begins_after}
use Rattle.program_host.proofs.prompted.begins_after.Given as goal

abbrev pub invariant-loop-byte : goal.invariant-loop-byte
invariant-loop-byte l = begins_after l.begins (drop l.byte-index l.bytes) ≡ begins_after l.fn.begins l.fn.bytes
