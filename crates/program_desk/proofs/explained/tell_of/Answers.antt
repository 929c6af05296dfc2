use Rattle.program_desk.proofs.explained.tell_of.Goals as goal

pub returns-then-is_empty : goal.returns-then-is_empty
returns-then-is_empty g c = (_, c.tell_named.ensures.0, c.tell_named.ensures.1, c.tell_named.ensures.2)

pub returns : goal.returns
returns g c = (_, c.tell_named-2.ensures.0, c.tell_named-2.ensures.1, c.tell_named-2.ensures.2)
