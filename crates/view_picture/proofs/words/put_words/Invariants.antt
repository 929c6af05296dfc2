use Rattle.std.proofs.Common.{◌≡◌, ◌≤◌, ◌*◌, ◌^◌, ◌++◌, string_bytes, drop}
use Rattle.view_picture.specs.Words.{after_words, words_text}
use Rattle.view_picture.proofs.words.put_words.Given as goal

abbrev pub invariant-loop-word : goal.invariant-loop-word
invariant-loop-word g l =
    (string_bytes l.out ++ words_text l.terms l.copy l.pica l.space l.here (drop l.word-index l.words) ≡ string_bytes l.fn.out ++ words_text l.terms l.copy l.pica l.space 0 l.words)
    × ((after_words l.terms l.copy l.space l.here (drop l.word-index l.words) ≡ after_words l.terms l.copy l.space 0 l.words) × (l.here ≤ l.word-index * 2 ^ 41))
