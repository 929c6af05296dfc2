use Rattle.desk_script.proofs.event.number_of.Goals as goal

pub returns-clause-there : goal.returns-clause-there
returns-clause-there g c = (c.in_ok-replica.replica.now.ops, c.in_ok-replica.ensures.there)
