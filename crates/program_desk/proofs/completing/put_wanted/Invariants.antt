use Rattle.std.proofs.Common.{◌≡◌, ◌++◌, drop, map, string_bytes}
use Rattle.program_desk.specs.Completed.{added}
use Rattle.feed_check.specs.RoomOptions.{given}
use Rattle.program_desk.proofs.completing.put_wanted.Given as goal

abbrev pub invariant-loop-option : goal.invariant-loop-option
invariant-loop-option l =
    map string_bytes l.all.items ++ added l.name (map string_bytes l.words) (map given (drop l.option-index l.options))
    ≡ map string_bytes l.fn.all.items ++ added l.name (map string_bytes l.words) (map given l.options)
