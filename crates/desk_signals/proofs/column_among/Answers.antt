use Rattle.std.proofs.Common.{rules, arith}
use Rattle.desk_signals.proofs.Pairs.{as_they_stand, n_and_i, n_and_l}
use Rattle.desk_signals.proofs.column_among.Goals as goal

pub returns-then-count_letters-le1 : goal.returns-then-count_letters-le1
returns-then-count_letters-le1 c = as_they_stand _ _ c.lone_column.ensures

pub returns-then-has : goal.returns-then-has
returns-then-has c = n_and_i c.args.signals.now c.requires (omega (arith, c.if-count_letters-le1.false, c.count_letters.ensures)) (search rules)

pub returns-else-has : goal.returns-else-has
returns-else-has c = n_and_l c.args.signals.now c.requires (omega (arith, c.if-count_letters-le1.false, c.count_letters.ensures)) (search rules)
