use Rattle.desk_lines.proofs.WordLaws.{words_are_words}
use Rattle.desk_lines.proofs.laws.words_are_words.Goals as goal

pub returns : goal.returns
returns c = words_are_words
