use Rattle.std.proofs.Common.{refl}
use Rattle.program_words.proofs.wishes.room_of.Goals as goal

pub returns-in-None : goal.returns-in-None
returns-in-None c = c.in-None.ensures.none refl
