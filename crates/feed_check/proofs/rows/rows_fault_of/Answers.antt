use Rattle.std.proofs.Common.{arith}
use Rattle.std.proofs.lemmas.Bool.Decides.{nat_tests}
use Rattle.feed_check.proofs.Counts.{other_count, right_count}
use Rattle.feed_check.proofs.rows.rows_fault_of.Goals as goal

pub returns-then-len-ne-ROWS : goal.returns-then-len-ne-ROWS
returns-then-len-ne-ROWS c = other_count c.in_ok-rows.rows.now.items _ c.len-then-len-ne-ROWS.result c.in_ok-rows.ensures (grind (arith, nat_tests)) (grind (arith, nat_tests))

pub returns : goal.returns
returns c = right_count c.in_ok-rows.rows.now.items c.deref-2.result.now c.deref.result.now _ c.wanted_by.result c.first_row.result c.in_ok-rows.ensures c.deref.ensures.value c.deref-2.ensures.value (grind (arith, nat_tests)) c.wanted_by.ensures c.first_row.ensures
