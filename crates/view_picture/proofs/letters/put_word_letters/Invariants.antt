use Rattle.std.proofs.Common.{◌≡◌, ◌++◌, string_bytes, drop}
use Rattle.view_picture.specs.Letters.{letters_from, word_letters}
use Rattle.view_picture.proofs.letters.put_word_letters.Given as goal

abbrev pub invariant-loop-symbol : goal.invariant-loop-symbol
invariant-loop-symbol g l = string_bytes l.out ++ letters_from l.case l.worn (drop l.symbol-index l.word) ≡ string_bytes l.fn.out ++ word_letters l.case l.word
