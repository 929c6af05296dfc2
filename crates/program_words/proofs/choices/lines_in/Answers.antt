use Rattle.program_words.proofs.Chosen.{no_lines}
use Rattle.program_words.proofs.choices.lines_in.Goals as goal

pub returns-in-None : goal.returns-in-None
returns-in-None c = no_lines c.args.text.now c.in-None.ensures
