use Rattle.std.proofs.Common.{◌≡◌, ◌≤◌, false, length, ◌&&◌, arith}
use Rattle.std.specs.Prelude.{nat_le}
use Rattle.std.proofs.lemmas.Bool.Decides.{nat_tests}
use Rattle.desk_case.specs.File.{cell_of_data}
use Rattle.desk_wedge.proofs.Items.{wrong_length, right_length}
use Rattle.desk_case.proofs.read.fill.Goals as goal
use Rattle.desk_case.proofs.read.fill.Goals.{then-is_empty-via-then-is_empty, then-is_empty-via-else-is_empty+then-len-gt4}

pub returns-then-is_empty : goal.returns-then-is_empty
returns-then-is_empty c =
    let outside : (nat_le 1 (length c.in-Some.items.now.items) && nat_le (length c.in-Some.items.now.items) 4) ≡ false =
    elim c.then-is_empty.branch [ then-is_empty-via-then-is_empty w ↦ grind (arith, nat_tests) | then-is_empty-via-else-is_empty+then-len-gt4 w ↦ grind (arith, nat_tests) ] in
    rw (← c.in-Some.ensures) (wrong_length (cell_of_data c.args.columns) c.in-Some.items.now.items 1 4 outside)

pub returns : goal.returns
returns c =
    let some : 1 ≤ length c.deref-item-items.result.now = grind (arith, nat_tests) in
    let few : length c.deref-item-items.result.now ≤ 4 = grind (arith, nat_tests) in
    rw (← c.in-Some.ensures, ← c.deref-item-items.ensures.value)
    (right_length (cell_of_data c.args.columns) c.deref-item-items.result.now c.loop-item.item-index 1 4 c.loop-item.fill.items c.loop-item-test.false c.loop-item.invariant some few)
