use Rattle.program_words.proofs.Chosen.{no_page}
use Rattle.program_words.proofs.choices.page_in.Goals as goal

pub returns-in-None : goal.returns-in-None
returns-in-None c = no_page c.args.text.now c.in-None.ensures
