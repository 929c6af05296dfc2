use Rattle.std.proofs.Common.{rules, sym, ◌∙◌}
use Rattle.desk_signals.proofs.Reading.{fine_row, coarse_row, cell_row, the_answer}
use Rattle.desk_signals.proofs.from_signals.Goals as goal

pub returns-in-Some-clause-every_order : goal.returns-in-Some-clause-every_order
returns-in-Some-clause-every_order c = the_answer c.args.signals.now _ (sym c.in-Some.is ∙ c.fault.ensures) tt tt

pub returns-then-has-clause-spells : goal.returns-then-has-clause-spells
returns-then-has-clause-spells c = fine_row c.args.signals.now c.unwrap.result (search rules) (search rules) (search rules)

pub returns-then-has-clause-every_order : goal.returns-then-has-clause-every_order
returns-then-has-clause-every_order c = the_answer c.args.signals.now _ (search rules) (search rules) (returns-then-has-clause-spells c)

pub returns-then-has-2-clause-spells : goal.returns-then-has-2-clause-spells
returns-then-has-2-clause-spells c = coarse_row c.args.signals.now c.unwrap-then-has-2.result (search rules) (search rules) (search rules) (search rules)

pub returns-then-has-2-clause-every_order : goal.returns-then-has-2-clause-every_order
returns-then-has-2-clause-every_order c = the_answer c.args.signals.now _ (search rules) (search rules) (returns-then-has-2-clause-spells c)

pub returns-clause-spells : goal.returns-clause-spells
returns-clause-spells c = cell_row c.args.signals.now c.column_among-column.result c.unwrap-row.result c.has-s.result (search rules) (search rules) (search rules) (search rules) (search rules) (search rules)

pub returns-clause-every_order : goal.returns-clause-every_order
returns-clause-every_order c = the_answer c.args.signals.now _ (search rules) (search rules) (returns-clause-spells c)
