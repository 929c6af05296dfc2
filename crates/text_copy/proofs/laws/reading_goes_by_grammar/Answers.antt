use Rattle.text_copy.proofs.Grammar.{text_is_grammar}
use Rattle.text_copy.proofs.laws.reading_goes_by_grammar.Goals as goal

pub returns : goal.returns
returns c = text_is_grammar
