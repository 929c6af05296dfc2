use Rattle.std.proofs.Common.{◌≡◌, drop, map, string_bytes}
use Rattle.program_desk.specs.Completed.{is_given}
use Rattle.program_desk.proofs.completing.is_given.Given as goal

abbrev pub invariant-loop-word : goal.invariant-loop-word
invariant-loop-word l =
    is_given l.option (map string_bytes (drop l.word-index l.words)) ≡ is_given l.option (map string_bytes l.words)
