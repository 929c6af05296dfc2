use Rattle.std.proofs.Common.{◌≡◌, ◌++◌, drop, map, string_bytes}
use Rattle.program_desk.proofs.completing.put_words.Given as goal

abbrev pub invariant-loop-word : goal.invariant-loop-word
invariant-loop-word l =
    map string_bytes l.all.items ++ map string_bytes (drop l.word-index l.words)
    ≡ map string_bytes l.fn.all.items ++ map string_bytes l.words
