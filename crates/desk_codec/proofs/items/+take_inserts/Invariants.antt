use Rattle.desk_codec.proofs.items.+take_inserts.Given as goal

abbrev pub decreases-take_inserts : goal.decreases-take_inserts
decreases-take_inserts g l = l.count
