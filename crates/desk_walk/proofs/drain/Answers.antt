use Rattle.desk_walk.proofs.drain.Goals as goal

pub step-requires-clause-follows : goal.step-requires-clause-follows
step-requires-clause-follows g c = let f = c.requires.follows in (f.0, f.1, c.loop-place.invariant.follows f.0 f.1 f.2)
