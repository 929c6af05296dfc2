use Rattle.desk_blocks.proofs.Places.{nth-shown, short-shown}
use Rattle.desk_blocks.proofs.blocks.BlocksSequence.shown_place.Goals as goal

pub returns-in-Ok-clause-found : goal.returns-in-Ok-clause-found
returns-in-Ok-clause-found g c = rw (← c.self.view_is) (nth-shown c.self.inside.pages.entries c.args.i c.in-Ok.place c.in-Ok.ensures.found)

pub returns-in-Err-clause-none : goal.returns-in-Err-clause-none
returns-in-Err-clause-none g c = λ _. rw (← c.self.view_is) (short-shown c.self.inside.pages.entries c.args.i _ c.in-Err.ensures.short)
