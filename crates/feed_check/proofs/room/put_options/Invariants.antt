use Rattle.std.proofs.Common.{◌≡◌, ◌++◌, drop, map, string_bytes}
use Rattle.feed_check.specs.Room.{options_words}
use Rattle.feed_check.specs.RoomOptions.{given}
use Rattle.feed_check.proofs.room.put_options.Given as goal

abbrev pub invariant-loop-option : goal.invariant-loop-option
invariant-loop-option g l =
    string_bytes l.out ++ options_words (map given (drop l.option-index l.options))
    ≡ string_bytes l.fn.out ++ options_words (map given l.options)
