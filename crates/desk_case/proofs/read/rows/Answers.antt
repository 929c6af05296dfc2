use Rattle.std.proofs.Common.{◌≡◌, ◌≢◌, ◌∙◌, ap, subst, Some, length, arith}
use Rattle.std.proofs.lemmas.Bool.Decides.{nat_tests}
use Rattle.toml.specs.View.{view, items_view}
use Rattle.desk_case.specs.File.{row_of}
use Rattle.desk_case.specs.Reading.{AddsRow}
use Rattle.desk_case.proofs.Rows.{few_rows, row_missing, row_added, rows_read}
use Rattle.desk_case.proofs.read.rows.Goals as goal

pub returns-then-len-ne-ROWS : goal.returns-then-len-ne-ROWS
returns-then-len-ne-ROWS c =
    let other : length c.in-Some.items.now.items ≢ 15 = grind (arith, nat_tests) in
    few_rows c.args.columns c.in-Some.items.now.items _ c.in-Some.ensures other

pub returns-then-not-branch : goal.returns-then-not-branch
returns-then-not-branch c =
    let array = ap (λ xs. Some (items_view xs)) c.deref-item-items.ensures.value ∙ c.in-Some.ensures in
    let missing = subst (λ b. AddsRow c.loop-item.matrices.items c.add_row.new.matrices.items (row_of c.args.columns (view c.item-item.result)) b) c.if-not-branch.true c.in_ok-add_row.ensures in
    row_missing c.args.columns c.deref-item-items.result.now c.loop-item.item-index _ c.loop-item.matrices.items c.add_row.new.matrices.items c.item-item.result
    array c.loop-item-test.true c.item-item.is missing c.loop-item.invariant

pub loop-item-preserved : goal.loop-item-preserved
loop-item-preserved c =
    let added = subst (λ b. AddsRow c.loop-item.matrices.items c.add_row.new.matrices.items (row_of c.args.columns (view c.item-item.result)) b) c.if-not-branch.false c.in_ok-add_row.ensures in
    row_added c.args.columns c.deref-item-items.result.now c.loop-item.item-index c.loop-item.matrices.items c.add_row.new.matrices.items c.item-item.result
    c.loop-item-test.true c.item-item.is added c.loop-item.invariant

pub returns : goal.returns
returns c =
    let array = ap (λ xs. Some (items_view xs)) c.deref-item-items.ensures.value ∙ c.in-Some.ensures in
    let long : length c.deref-item-items.result.now ≡ 15 = grind (arith, nat_tests) in
    rows_read c.args.columns c.deref-item-items.result.now c.loop-item.item-index _ c.loop-item.matrices.items array long c.loop-item-test.false c.loop-item.invariant
