use Rattle.program_desk.proofs.told.+tell_number.Given as goal

abbrev pub decreases-tell_number : goal.decreases-tell_number
decreases-tell_number g l = l.number
